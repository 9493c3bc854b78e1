-- Over a hop with one draw on each segment: the first segment, the switch, and the second.
use Rattle.law_sealing.proofs.Terms.{◌≡◌, ◌≢◌, ℕ, ◌≤◌, List, ◌∷◌, ◌++◌}
use Rattle.law_sealing.proofs.Terms.{length, ap, sym, ◌∙◌, arith, append_assoc, Plan, CauseLaw, TotalsFit}
use Rattle.law_sealing.proofs.Terms.{History, PortName, SubKind}
use Rattle.law_sealing.proofs.Terms.{IsPrefixOf, lane_in, sub_bits, Pr}
use Rattle.spec_links.proofs.Terms.{partner}
use Rattle.ide_types.specs.Sub.{is_same_sub}
use Rattle.ide_types.specs.Fits.{FitsPlan}
use Rattle.ide_types.specs.Ports.{host_port, device_port}
use Rattle.ide_types.specs.Lines.{near_hop_line, far_hop_line}
use Rattle.ide_types.specs.declared.direction.Direction.TheVariants.{Downstream, Upstream}
use Rattle.spec_links.proofs.Tests.{same_sub}
use Rattle.spec_links.specs.Hops.{HopTlp}
use Rattle.spec_links.specs.HopLaws.{in_sub, tlps_since_reset, draws_since}
use Rattle.spec_links.specs.Memory.{accepted_tlps}
use Rattle.law_delivery.specs.NoForgeryUnder.{NoForgeryUnder}
use Rattle.law_delivery.proofs.Closed.{all_map}
use Rattle.law_hops.proofs.Since.{IsSegment}
use Rattle.law_hops.proofs.Crossing.{IsLone}
use Rattle.law_hops.proofs.Crosses.{HasHop, few_links, near_lone, far_lone, near_segment, far_segment, the_draw}
use Rattle.law_hops.proofs.Forwards.{in_order}
use Rattle.law_crossings.specs.HopOrder.{PostedFirst, NoForgeryOrPosted}
use Rattle.law_crossings.specs.Statements.{HopPostedLawHolds}
use Rattle.law_crossings.proofs.Split.{number_cut}
use Rattle.law_crossings.proofs.Unforged.{unforged_since}
use Rattle.law_crossings.proofs.HopPosted.{segment_first, own_more, got_most}

-- ---- over the switch

over_switch : (u : SubKind) (was got between last : List HopTlp) → PostedFirst u got was → IsPrefixOf between got
    → PostedFirst u last between → length (in_sub u last) ≤ length (in_sub u between) → PostedFirst u last was
over_switch u was got between last first begins second enough before after ahead later x y last_is was_is own same
    number =
    let more = own_more u before x after own in
    let all = ap (λ (xs : List HopTlp). length (in_sub u xs)) last_is in
    let cut = number_cut (λ (z : HopTlp). is_same_sub z.sub u) between (length (in_sub u before))
    (omega (arith, more, all, enough)) in
    let sub : cut.element.sub ≡ u = same_sub cut.element.sub u cut.passes in
    let one = second before after cut.ahead cut.later x cut.element last_is cut.is own sub cut.number in
    let whole : got ≡ cut.ahead ++ cut.element ∷ (cut.later ++ begins.0) = sym begins.1
    ∙ ((λ i. cut.is i ++ begins.0) ∙ append_assoc cut.ahead (cut.element ∷ cut.later) begins.0) in
    let two = first cut.ahead (cut.later ++ begins.0) ahead later cut.element y whole was_is sub same
    (number ∙ sym cut.number) in
    omega (arith, one, two)

-- ---- the two segments

-- one end of a segment: the posted ones come first there, and no more comes than was sent
record Crosses (plan : Plan) (h : History) (link : ℕ) (q : PortName) (u : SubKind) : Type 0 where
  first : PostedFirst u (accepted_tlps plan h link q) (tlps_since_reset plan h link (partner q))
  most : length (in_sub u (accepted_tlps plan h link q)) ≤ length (in_sub u (tlps_since_reset plan h link (partner q)))

crosses : (plan : Plan) → FitsPlan plan → (h : History) → CauseLaw plan h → TotalsFit plan h → (link : ℕ)
    (q : PortName) (stream : ℕ) (u : SubKind) → IsSegment link q.line → IsLone plan q.line stream → sub_bits u ≢ 0
    → length (draws_since h link q.line) ≤ 1 → NoForgeryOrPosted plan h link q stream u → Crosses plan h link q u
crosses plan fits h cause totals link q stream u segment lone other few none =
    let one = the_draw (λ j. Unit {0}) h link q.line segment few (λ j up. tt)
    (all_map (λ j. NoForgeryUnder plan h (lane_in q stream u) j) (λ j. Unit {0}) (draws_since h link q.line)
    (λ j t. tt) none.0) in
    let own = unforged_since plan h cause link q stream u segment none.0 in
    let posted = unforged_since plan h cause link q stream Pr segment none.1 in
    record {
      first = segment_first plan fits link q stream one.draw u segment lone other h cause totals one.is (own, posted);
      most = got_most plan fits h cause link q stream u segment lone own;
    }

pub hop_posted_law : HopPostedLawHolds
hop_posted_law plan fits h cause totals link hop Downstream u known is draws other entering last =
    let x : HasHop plan link = record { below = few_links plan link known; hop = hop; is = is } in
    let one = crosses plan fits h cause totals link (device_port (near_hop_line link)) hop.id u
    (near_segment link x.below) (near_lone plan fits link x) other draws.near entering in
    let two = crosses plan fits h cause totals link (device_port (far_hop_line link)) hop.id u
    (far_segment link x.below) (far_lone plan fits link x) other draws.far last in
    over_switch u _ _ _ _ one.first (in_order plan fits h cause link Downstream known) two.first two.most
hop_posted_law plan fits h cause totals link hop Upstream u known is draws other entering last =
    let x : HasHop plan link = record { below = few_links plan link known; hop = hop; is = is } in
    let one = crosses plan fits h cause totals link (host_port (far_hop_line link)) hop.id u
    (far_segment link x.below) (far_lone plan fits link x) other draws.far entering in
    let two = crosses plan fits h cause totals link (host_port (near_hop_line link)) hop.id u
    (near_segment link x.below) (near_lone plan fits link x) other draws.near last in
    over_switch u _ _ _ _ one.first (in_order plan fits h cause link Upstream known) two.first two.most
