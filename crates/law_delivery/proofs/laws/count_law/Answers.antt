use Rattle.law_delivery.proofs.Counts.{count_law as holds}
use Rattle.law_delivery.proofs.laws.count_law.Goals as goal

pub returns : goal.returns
returns c = holds
