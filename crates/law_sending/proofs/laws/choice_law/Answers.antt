use Rattle.law_sending.proofs.AllLaws.{choice_law as holds}
use Rattle.law_sending.proofs.laws.choice_law.Goals as goal

pub returns : goal.returns
returns c = holds
