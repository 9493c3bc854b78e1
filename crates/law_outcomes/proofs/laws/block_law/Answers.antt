use Rattle.law_outcomes.proofs.AllLaws.{block_law as holds}
use Rattle.law_outcomes.proofs.laws.block_law.Goals as goal

pub returns : goal.returns
returns c = holds
