use Rattle.law_verdicts.proofs.AllLaws.{failed_law as holds}
use Rattle.law_verdicts.proofs.laws.failed_law.Goals as goal

pub returns : goal.returns
returns c = holds
