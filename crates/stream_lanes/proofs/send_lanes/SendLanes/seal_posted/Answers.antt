use Rattle.std.proofs.Common.{◌≡◌, ◌+◌, ◌≤◌, length, Ok, sym, ap, ◌∙◌, subst}
use Rattle.ide_types.specs.declared.sub.SubKind.TheVariants.{Pr, Npr, Cpl}
use Rattle.stream_lanes.specs.Lanes.{SendEnd, SendEnds, HasPostedRoom, send_end_at, ready_end, open_in, tlp_said}
use Rattle.stream_lanes.specs.Lanes.{packet_said}
use Rattle.stream_lanes.proofs.Sealing.{room-sealed}
use Rattle.stream_lanes.proofs.Sent.{lane-kept}
use Rattle.stream_lanes.proofs.send_lanes.SendLanes.seal_posted.Goals as goal

pub invariant_of-self : goal.invariant_of-self
invariant_of-self c =
    let inside = c.self.inside in
    let d = tlp_said inside.pr c.args.more c.args.t in
    let p = packet_said inside.pr c.args.head.now c.args.payload.now d in
    let ready : ready_end inside.pr ≡ Ok c.args.key =
    ap ready_end c.self.invariant.is_pr ∙ ap (λ (x : SendEnds). ready_end (send_end_at x Pr)) c.self.view_is
    ∙ c.requires.ready in
    let npr : inside.npr.kept.posted + inside.fixed.aggregation ≤ 255 + length (open_in inside.pr.kept.slots) =
    subst (λ (x : SendEnds). x.tx.npr.posted + x.fixed.aggregation ≤ 255 + length (open_in x.tx.pr.slots))
    (sym c.self.view_is)
    c.requires.npr_room in
    let cpl : inside.cpl.kept.posted + inside.fixed.aggregation ≤ 255 + length (open_in inside.pr.kept.slots) =
    subst (λ (x : SendEnds). x.tx.cpl.posted + x.fixed.aggregation ≤ 255 + length (open_in x.tx.pr.slots))
    (sym c.self.view_is)
    c.requires.cpl_room in
    record {
      is_pr = lane-kept inside.fixed Pr inside.pr c.seal-packet.new.self _ c.self.invariant.is_pr
          c.seal-packet.ensures.lane;
      is_npr = lane-kept inside.fixed Npr inside.npr c.count_posted.new.self _ c.self.invariant.is_npr
          c.count_posted.ensures;
      is_cpl = lane-kept inside.fixed Cpl inside.cpl c.count_posted-2.new.self _ c.self.invariant.is_cpl
          c.count_posted-2.ensures;
      small_aggregation = c.self.invariant.small_aggregation;
      npr_room =
          subst (λ (y : SendEnd × SendEnd). HasPostedRoom inside.fixed.aggregation y.0.kept y.1.kept)
          (λ i. (sym c.seal-packet.ensures.lane i, sym c.count_posted.ensures i))
          (room-sealed inside.fixed.aggregation inside.npr.kept.posted _ d.m p inside.pr.kept.slots c.args.key ready
          npr);
      cpl_room =
          subst (λ (y : SendEnd × SendEnd). HasPostedRoom inside.fixed.aggregation y.0.kept y.1.kept)
          (λ i. (sym c.seal-packet.ensures.lane i, sym c.count_posted-2.ensures i))
          (room-sealed inside.fixed.aggregation inside.cpl.kept.posted _ d.m p inside.pr.kept.slots c.args.key ready
          cpl);
    }
