use Rattle.std.proofs.Common.{None, Some, sym, ◌∙◌}
use Rattle.guarded_memory.proofs.Claimed.{first_claim_from-next}
use Rattle.guarded_memory.proofs.claims.claim_of.Goals as goal

pub returns-in-Some-clause-claim : goal.returns-in-Some-clause-claim
returns-in-Some-clause-claim g c =
    let xs = g.S.Statuses.stand c.args.statuses.now in
    sym (first_claim_from-next c.loop-i.i c.loop-i.i xs c.args.span c.status-status.result
    (Some (c.in-Some.bar, c.in-Some.range)) c.status-status.ensures
    (sym c.claimed_bar.ensures.bar ∙ c.in-Some.is)) ∙ c.loop-i.invariant

pub loop-i-preserved : goal.loop-i-preserved
loop-i-preserved g c =
    let xs = g.S.Statuses.stand c.args.statuses.now in
    sym (first_claim_from-next c.loop-i.i c.loop-i.i xs c.args.span c.status-status.result None
    c.status-status.ensures (sym c.claimed_bar.ensures.bar ∙ c.in_default.is)) ∙ c.loop-i.invariant
