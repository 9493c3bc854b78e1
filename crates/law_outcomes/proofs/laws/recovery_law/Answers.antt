use Rattle.law_outcomes.proofs.AllLaws.{recovery_law as holds}
use Rattle.law_outcomes.proofs.laws.recovery_law.Goals as goal

pub returns : goal.returns
returns c = holds
