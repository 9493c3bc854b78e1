use Rattle.interface_ends.proofs.Operations.{operations_stated}
use Rattle.interface_ends.proofs.walk_laws.operations_are_stated.Goals as goal

pub returns : goal.returns
returns c = operations_stated c.exchanges_are_due.ensures
