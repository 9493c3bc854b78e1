use Rattle.law_delivery.proofs.AllLaws.{whole_law as holds}
use Rattle.law_delivery.proofs.laws.whole_law.Goals as goal

pub returns : goal.returns
returns c = holds
