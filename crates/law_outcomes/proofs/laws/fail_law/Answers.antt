use Rattle.law_outcomes.proofs.AllLaws.{fail_law as holds}
use Rattle.law_outcomes.proofs.laws.fail_law.Goals as goal

pub returns : goal.returns
returns c = holds
