use Rattle.law_locks.proofs.AllLaws.{lock_law as holds}
use Rattle.law_locks.proofs.laws.lock_law.Goals as goal

pub returns : goal.returns
returns c = holds
