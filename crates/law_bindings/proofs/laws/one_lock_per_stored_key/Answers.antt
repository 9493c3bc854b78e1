use Rattle.law_bindings.proofs.AllLaws.{one_lock_per_stored_key as holds}
use Rattle.law_bindings.proofs.laws.one_lock_per_stored_key.Goals as goal

pub returns : goal.returns
returns c = holds
