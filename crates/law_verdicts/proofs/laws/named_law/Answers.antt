use Rattle.law_verdicts.proofs.AllLaws.{named_law as holds}
use Rattle.law_verdicts.proofs.laws.named_law.Goals as goal

pub returns : goal.returns
returns c = holds
