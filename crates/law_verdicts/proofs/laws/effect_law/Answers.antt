use Rattle.law_verdicts.proofs.AllLaws.{effect_law as holds}
use Rattle.law_verdicts.proofs.laws.effect_law.Goals as goal

pub returns : goal.returns
returns c = holds
