use Rattle.law_keys.proofs.Ends.{settles as holds}
use Rattle.law_keys.proofs.laws.operations_settle.Goals as goal

pub returns : goal.returns
returns c = holds
