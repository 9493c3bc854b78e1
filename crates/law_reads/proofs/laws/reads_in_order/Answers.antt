use Rattle.law_reads.proofs.Order.{reads_in_order as holds}
use Rattle.law_reads.proofs.laws.reads_in_order.Goals as goal

pub returns : goal.returns
returns c = holds
