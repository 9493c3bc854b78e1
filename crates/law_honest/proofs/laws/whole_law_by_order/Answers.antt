use Rattle.law_honest.proofs.ByOrder.{whole_law_by_order as holds}
use Rattle.law_honest.proofs.laws.whole_law_by_order.Goals as goal

pub returns : goal.returns
returns c = holds
