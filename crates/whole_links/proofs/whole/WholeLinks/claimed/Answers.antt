use Rattle.std.proofs.Common.{sym, ◌∙◌}
use Rattle.guarded_memory.proofs.Claimed.{claimed}
use Rattle.link_stores.specs.{device_statuses}
use Rattle.whole_links.proofs.whole.WholeLinks.claimed.Goals as goal

pub responded-requires-clause-holds : goal.responded-requires-clause-holds
responded-requires-clause-holds c =
    let statuses = device_statuses c.at-access.result.now.floors c.link.result.now.device.interfaces in
    (claimed statuses c.args.waiting.now.read.span c.in-Ok.claim
    (sym c.claim-claim.ensures ∙ c.in-Ok.ensures.same)).holds
