use Rattle.law_keys.proofs.States.{keys_follow_operations as holds}
use Rattle.law_keys.proofs.laws.keys_follow_operations.Goals as goal

pub returns : goal.returns
returns c = holds
