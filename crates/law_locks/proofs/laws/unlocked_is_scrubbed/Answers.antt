use Rattle.law_locks.proofs.AllLaws.{unlocked_is_scrubbed as holds}
use Rattle.law_locks.proofs.laws.unlocked_is_scrubbed.Goals as goal

pub returns : goal.returns
returns c = holds
