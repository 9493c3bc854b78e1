use Rattle.law_locks.proofs.AllLaws.{answers_law as holds}
use Rattle.law_locks.proofs.laws.answers_law.Goals as goal

pub returns : goal.returns
returns c = holds
