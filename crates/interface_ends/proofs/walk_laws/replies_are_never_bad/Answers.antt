use Rattle.interface_ends.proofs.Exchanges.{never_bad}
use Rattle.interface_ends.proofs.walk_laws.replies_are_never_bad.Goals as goal

pub returns : goal.returns
returns c = never_bad c.exchanges_are_due.ensures
