use Rattle.law_crossings.proofs.HopOrder.{hop_order_law as holds}
use Rattle.law_crossings.proofs.laws.hop_order_law.Goals as goal

pub returns : goal.returns
returns c = holds
