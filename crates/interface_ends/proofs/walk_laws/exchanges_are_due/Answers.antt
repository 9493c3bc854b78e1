use Rattle.interface_ends.proofs.Exchanges.{exchange_due}
use Rattle.interface_ends.proofs.walk_laws.exchanges_are_due.Goals as goal

pub returns : goal.returns
returns c = exchange_due c.request_read_again.ensures.reads c.reply_read_again.ensures.reads
