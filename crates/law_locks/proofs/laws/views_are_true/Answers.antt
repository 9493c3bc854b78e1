use Rattle.law_locks.proofs.AllLaws.{views_are_true as holds}
use Rattle.law_locks.proofs.laws.views_are_true.Goals as goal

pub returns : goal.returns
returns c = holds
