-- What crosses a hop under several keys: across the first segment, through the switch, and across the second, some may
-- be lost, and the rest keep their order.
use Rattle.law_sealing.proofs.Terms.{ℕ, List, ap, sym}
use Rattle.law_sealing.proofs.Terms.{subst, ◌∙◌, Plan}
use Rattle.law_sealing.proofs.Terms.{History, PortName, SubKind, SubStream, CauseLaw, lane_in}
use Rattle.std.specs.Prelude.{◌-◌}
use Rattle.spec_links.proofs.Terms.{draws, partner}
use Rattle.law_sealing.proofs.OfPlans.{streams_fit}
use Rattle.law_key_facts.proofs.Draws.{draws as draw_facts}
use Rattle.ide_types.specs.Ports.{host_port, device_port}
use Rattle.ide_types.specs.Lines.{near_hop_line, far_hop_line}
use Rattle.ide_types.specs.declared.direction.Direction.TheVariants.{Downstream, Upstream}
use Rattle.ide_types.specs.Fits.{FitsPlan}
use Rattle.spec_links.specs.Hops.{HopTlp}
use Rattle.spec_links.specs.HopLaws.{in_sub, tlps_since_reset}
use Rattle.spec_links.specs.Memory.{accepted_tlps}
use Rattle.law_hops.proofs.Since.{IsSegment, mark}
use Rattle.law_hops.proofs.Carried.{hop_got, hop_sent}
use Rattle.law_hops.proofs.Crossing.{IsLone}
use Rattle.law_hops.proofs.Crosses.{carried_in_order, HasHop, few_links, lane_of_partner, near_lone, far_lone}
use Rattle.law_hops.proofs.Crosses.{near_segment, far_segment}
use Rattle.law_hops.proofs.Forwards.{each_in_order}
use Rattle.law_crossings.specs.HopOrder.{IsLeftOf}
use Rattle.law_crossings.specs.Statements.{HopOrderLawHolds}
use Rattle.law_crossings.proofs.Joined.{by_draws, left_each, left_of, prefix_left}
use Rattle.law_crossings.proofs.HopTaken.{taken_each}
use Rattle.law_crossings.proofs.HopSealed.{sealed_each}
use Rattle.law_hops.specs.LocalLaws.{NoForgerySince}
use Rattle.law_crossings.proofs.Unforged.{IsUnforged, unforged_since}

pub segment_left : (plan : Plan) → FitsPlan plan → (h : History) → CauseLaw plan h → (link : ℕ) (q : PortName)
    (stream : ℕ) (u : SubKind) → IsSegment link q.line → IsLone plan q.line stream → IsUnforged plan h link q stream u
    → IsLeftOf (in_sub u (accepted_tlps plan h link q)) (in_sub u (tlps_since_reset plan h link (partner q)))
segment_left plan fits h cause link q stream u segment lone none =
    let facts = draw_facts plan in
    let s = lane_in q stream u in
    let one = taken_each plan facts h cause link q stream u segment lone in
    let two = sealed_each plan facts h cause link (partner q) stream u segment lone
    ∙ ap (λ (t : SubStream). by_draws (hop_sent plan h t) (mark h link) (draws h - mark h link))
    (sym (lane_of_partner q stream u)) in
    let each = left_each (hop_got plan h s) (hop_sent plan h s) (mark h link) (draws h - mark h link)
    (λ j up. prefix_left (hop_got plan h s j) (hop_sent plan h s j)
    (carried_in_order plan (streams_fit plan fits) facts h cause s j (none j up))) in
    subst (λ (ys : List HopTlp). IsLeftOf (in_sub u (accepted_tlps plan h link q)) ys) (sym two)
    (subst (λ (xs : List HopTlp). IsLeftOf xs (by_draws (hop_sent plan h s) (mark h link) (draws h - mark h link)))
    (sym one) each)

-- ---- a hop

-- one end of a segment of the hop
pub segment_loses : (plan : Plan) → FitsPlan plan → (h : History) → CauseLaw plan h → (link : ℕ) (q : PortName)
    (stream : ℕ) (u : SubKind) → IsSegment link q.line → IsLone plan q.line stream
    → NoForgerySince plan h link q stream u
    → IsLeftOf (in_sub u (accepted_tlps plan h link q)) (in_sub u (tlps_since_reset plan h link (partner q)))
segment_loses plan fits h cause link q stream u segment lone none =
    segment_left plan fits h cause link q stream u segment lone
    (unforged_since plan h cause link q stream u segment none)

pub hop_order_law : HopOrderLawHolds
hop_order_law plan fits h cause link hop Downstream u known is entering last =
    let x : HasHop plan link = record { below = few_links plan link known; hop = hop; is = is } in
    let near = segment_loses plan fits h cause link (device_port (near_hop_line link)) hop.id u
    (near_segment link x.below) (near_lone plan fits link x) entering in
    let far = segment_loses plan fits h cause link (device_port (far_hop_line link)) hop.id u
    (far_segment link x.below) (far_lone plan fits link x) last in
    left_of _ _ _ far (left_of _ _ _ (prefix_left _ _ (each_in_order plan fits h cause link Downstream u known)) near)
hop_order_law plan fits h cause link hop Upstream u known is entering last =
    let x : HasHop plan link = record { below = few_links plan link known; hop = hop; is = is } in
    let far = segment_loses plan fits h cause link (host_port (far_hop_line link)) hop.id u
    (far_segment link x.below) (far_lone plan fits link x) entering in
    let near = segment_loses plan fits h cause link (host_port (near_hop_line link)) hop.id u
    (near_segment link x.below) (near_lone plan fits link x) last in
    left_of _ _ _ near (left_of _ _ _ (prefix_left _ _ (each_in_order plan fits h cause link Upstream u known)) far)
