use Rattle.law_delivery.proofs.AllLaws.{prefix_law as holds}
use Rattle.law_delivery.proofs.laws.prefix_law.Goals as goal

pub returns : goal.returns
returns c = holds
