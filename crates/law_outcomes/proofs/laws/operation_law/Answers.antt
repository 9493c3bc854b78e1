use Rattle.law_outcomes.proofs.AllLaws.{operation_law as holds}
use Rattle.law_outcomes.proofs.laws.operation_law.Goals as goal

pub returns : goal.returns
returns c = holds
