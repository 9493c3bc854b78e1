use Rattle.std.proofs.Common.{◌≡◌, ◌∙◌, ◌+◌, List, ap, sym, subst}
use Rattle.std.specs.Prelude.{slice_set}
use Rattle.link_stores.specs.declared.link.LinkAccesses.{LinkAccesses}
use Rattle.join_ends.specs.Turns.{AccessesTurn, hops_cleared, nothing_happens, same_floors, same_reads}
use Rattle.join_ends.proofs.Turns.{clears_next, keeps_next}
use Rattle.join_ends.proofs.hops.clear_hops.Goals.{then-clears_hop, else-clears_hop}
use Rattle.join_ends.proofs.hops.clear_hops.Goals as goal

pub loop-link-preserved : goal.loop-link-preserved
loop-link-preserved c =
    let xs : List LinkAccesses = c.args.accesses.now in
    let now : List LinkAccesses = c.loop-link.accesses in
    let finish = λ (zs : List LinkAccesses) (same : c.if-clears_hop.accesses ≡ zs)
    (turn : AccessesTurn same_reads same_floors nothing_happens (hops_cleared c.args.ends.now (c.loop-link.link + 1)) xs
    zs).
    subst (λ (ws : List LinkAccesses). AccessesTurn same_reads same_floors nothing_happens
    (hops_cleared c.args.ends.now (c.loop-link.link + 1)) xs ws) (sym same) turn in
    elim c.if-clears_hop.branch [
      | then-clears_hop w ↦
          finish _ (w.accesses-is ∙ ap (slice_set now c.loop-link.link) w.clear_hop.ensures)
          (clears_next c.args.ends.now xs now c.loop-link.link w.at_mut.result.now c.loop-link.invariant
          (sym c.clears_hop.ensures ∙ w.if-clears_hop.true) w.at_mut.ensures.value)
      | else-clears_hop w ↦
          finish _ w.accesses-is
          (keeps_next c.args.ends.now xs now c.loop-link.link c.loop-link.invariant
          (sym c.clears_hop.ensures ∙ w.if-clears_hop.false))
    ]
