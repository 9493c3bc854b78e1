use Rattle.law_verdicts.proofs.AllLaws.{answer_law as holds}
use Rattle.law_verdicts.proofs.laws.answer_law.Goals as goal

pub returns : goal.returns
returns c = holds
