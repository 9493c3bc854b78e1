use Rattle.law_delivery.proofs.AllLaws.{order_is_no_forgery as holds}
use Rattle.law_delivery.proofs.laws.order_is_no_forgery.Goals as goal

pub returns : goal.returns
returns c = holds
