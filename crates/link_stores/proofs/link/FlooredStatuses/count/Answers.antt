use Rattle.std.proofs.Common.{sym, ◌∙◌}
use Rattle.link_stores.proofs.Statuses.{as_many}
use Rattle.link_stores.proofs.link.FlooredStatuses.count.Goals as goal

pub returns : goal.returns
returns c = c.count.ensures ∙ sym (as_many c.args.self.now.floors.now 0 c.args.self.now.interfaces.now.interfaces)
