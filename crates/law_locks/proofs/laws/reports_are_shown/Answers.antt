use Rattle.law_locks.proofs.AllLaws.{reports_are_shown as holds}
use Rattle.law_locks.proofs.laws.reports_are_shown.Goals as goal

pub returns : goal.returns
returns c = holds
