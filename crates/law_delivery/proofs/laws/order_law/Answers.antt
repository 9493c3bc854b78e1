use Rattle.law_delivery.proofs.OrderLaws.{order_law as holds}
use Rattle.law_delivery.proofs.laws.order_law.Goals as goal

pub returns : goal.returns
returns c = holds
