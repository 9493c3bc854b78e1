use Rattle.law_bindings.proofs.AllLaws.{bindings_hold_keys as holds}
use Rattle.law_bindings.proofs.laws.bindings_hold_keys.Goals as goal

pub returns : goal.returns
returns c = holds
