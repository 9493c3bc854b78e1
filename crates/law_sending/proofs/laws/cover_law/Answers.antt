use Rattle.law_sending.proofs.AllLaws.{cover_law as holds}
use Rattle.law_sending.proofs.laws.cover_law.Goals as goal

pub returns : goal.returns
returns c = holds
