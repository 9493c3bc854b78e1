use Rattle.law_delivery.proofs.AllLaws.{delivery_law as holds}
use Rattle.law_delivery.proofs.laws.delivery_law.Goals as goal

pub returns : goal.returns
returns c = holds
