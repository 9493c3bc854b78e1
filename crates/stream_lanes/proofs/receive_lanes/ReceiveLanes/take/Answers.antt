use Rattle.std.proofs.Common.{◌≡◌, ◌≤◌, ◌^◌, sym, ap, ◌∙◌, subst, refl, Option}
use Rattle.ide_types.specs.declared.sub.SubKind.{SubKind}
use Rattle.ide_types.specs.declared.sub.SubKind.TheVariants.{Pr, Npr, Cpl}
use Rattle.ide_prefix.specs.Cut.{packet_of_view}
use Rattle.ide_prefix.specs.Packet.{Packet}
use Rattle.spec_stream.specs.Stream.{PacketOutcome}
use Rattle.stream_lanes.specs.Arrivals.{ReceiveEnds, value_of_kind, lane_outcome, lanes_outcome, receive_ends_after}
use Rattle.stream_lanes.proofs.Arriving.{view, AreAfter, among-here, own-after, ends-after, lanes-kept}
use Rattle.stream_lanes.proofs.receive_lanes.ReceiveLanes.take.Goals as goal

pub take_in_lane-taken-requires-clause-few_pr : goal.take_in_lane-taken-requires-clause-few_pr
take_in_lane-taken-requires-clause-few_pr c =
    subst (λ (x : ReceiveEnds). x.rx.pr.total ≤ 2 ^ 40) (sym c.self.view_is) (c.requires.few Pr)

pub take_in_lane-taken-requires-clause-few_npr : goal.take_in_lane-taken-requires-clause-few_npr
take_in_lane-taken-requires-clause-few_npr c =
    subst (λ (x : ReceiveEnds). x.rx.npr.total ≤ 2 ^ 40) (sym c.self.view_is) (c.requires.few Npr)

pub take_in_lane-taken-requires-clause-few_cpl : goal.take_in_lane-taken-requires-clause-few_cpl
take_in_lane-taken-requires-clause-few_cpl c =
    subst (λ (x : ReceiveEnds). x.rx.cpl.total ≤ 2 ^ 40) (sym c.self.view_is) (c.requires.few Cpl)

packet : goal.After-self-1 → Packet
packet c = packet_of_view c.args.packet.now

here : goal.After-self-1 → PacketOutcome
here c = lane_outcome (value_of_kind (packet c).prefix.sub c.self.inside.pr c.self.inside.npr c.self.inside.cpl)
    c.self.inside.pr.kept.got (packet c)

after : (c : goal.After-self-1) → AreAfter (packet c) (here c) c.take_in_lane-taken.result c.self.inside.pr
    c.self.inside.npr c.self.inside.cpl c.drop_failed.new.lane c.drop_failed-2.new.lane c.drop_failed-3.new.lane
unfolding packet here
after c =
    let inside = c.self.inside in
    let u = c.args.packet.now.prefix.sub in
    record {
      pr_is = own-after u Pr (packet c) c.take_in_lane-taken.result inside.pr inside.npr inside.cpl
          c.take_in_lane-taken.new.pr
          c.drop_failed.new.lane inside.pr.kept.got c.take_in_lane-taken.ensures.pr c.drop_failed.ensures.kept
          c.drop_failed.ensures.delivered c.drop_failed.ensures.rest;
      npr_is = own-after u Npr (packet c) c.take_in_lane-taken.result inside.pr inside.npr inside.cpl
          c.take_in_lane-taken.new.npr
          c.drop_failed-2.new.lane inside.pr.kept.got c.take_in_lane-taken.ensures.npr c.drop_failed-2.ensures.kept
          c.drop_failed-2.ensures.delivered c.drop_failed-2.ensures.rest;
      cpl_is = own-after u Cpl (packet c) c.take_in_lane-taken.result inside.pr inside.npr inside.cpl
          c.take_in_lane-taken.new.cpl
          c.drop_failed-3.new.lane inside.pr.kept.got c.take_in_lane-taken.ensures.cpl c.drop_failed-3.ensures.kept
          c.drop_failed-3.ensures.delivered c.drop_failed-3.ensures.rest;
    }

among : (c : goal.After-self-1) → here c ≡ lanes_outcome
    (view c.self.inside.pr c.self.inside.npr c.self.inside.cpl c.self.inside.lent) (packet c)
unfolding here
among c = among-here c.self.inside.pr c.self.inside.npr c.self.inside.cpl c.self.inside.lent (packet c)
    c.self.invariant

pub returns-clause-lanes : goal.returns-clause-lanes
unfolding packet here
returns-clause-lanes c =
    let inside = c.self.inside in
    ap (λ (o : Option SubKind). view c.drop_failed.new.lane c.drop_failed-2.new.lane c.drop_failed-3.new.lane o)
    c.lends-self-inside.ensures
    ∙ ends-after (packet c) (here c) c.take_in_lane-taken.result inside.pr inside.npr inside.cpl c.drop_failed.new.lane
    c.drop_failed-2.new.lane c.drop_failed-3.new.lane inside.lent c.take_in_lane-taken.ensures.answer
    (after c)
    ∙ ap (receive_ends_after (view inside.pr inside.npr inside.cpl inside.lent) (packet c)) (among c)
    ∙ ap (λ (x : ReceiveEnds). receive_ends_after x (packet c) (lanes_outcome x (packet c))) c.self.view_is

pub invariant_of-self : goal.invariant_of-self
unfolding packet here
invariant_of-self c =
    let inside = c.self.inside in
    lanes-kept (packet c) (here c) c.take_in_lane-taken.result inside.pr inside.npr inside.cpl c.drop_failed.new.lane
    c.drop_failed-2.new.lane c.drop_failed-3.new.lane c.self.invariant refl (after c)
