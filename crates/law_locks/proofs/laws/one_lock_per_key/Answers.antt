use Rattle.law_locks.proofs.AllLaws.{one_lock_per_key as holds}
use Rattle.law_locks.proofs.laws.one_lock_per_key.Goals as goal

pub returns : goal.returns
returns c = holds
