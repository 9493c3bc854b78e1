-- What is accepted behind a hop is a prefix of what was sealed before it: across the first segment, through the switch,
-- and across the second.
use Rattle.law_sealing.proofs.Terms.{◌≡◌, ℕ, ◌<◌, ◌≤◌, ◌+◌, ◌==◌, ◌&&◌, Bool, true, false, List, [], ◌∷◌, ◌++◌, length}
use Rattle.law_sealing.proofs.Terms.{Some, refl, ap, sym, subst, ◌∙◌, arith, nat_tests, inl, inr}
use Rattle.law_sealing.proofs.Terms.{if◌then◌else◌, cases_Bool, AllByRecursion, map, filter, append_assoc, and_parts}
use Rattle.law_sealing.proofs.Terms.{eqb-true, is_some, slice_get, Plan, History, Sealed, Accepted}
use Rattle.law_sealing.proofs.Terms.{PortName, SealedPacket, SubKind, SubStream, CauseLaw, IsPrefixOf}
use Rattle.law_sealing.proofs.Terms.{DrawFacts, StreamsFit, is_received_under, is_same, lane_in, lane_out, same_stream}
use Rattle.law_sealing.proofs.Terms.{Pr, received_in, sub_stream_of, sent_bytes, accepted_packets, nat_lt, not}
use Rattle.std.proofs.Common.{subst₂, ◌-◌}
use Rattle.spec_links.proofs.Terms.{Establish, Reset, draws, op_of, begins_keyed, partner}
use Rattle.spec_links.proofs.Ends.{stream_is_there}
use Rattle.law_sealing.proofs.OfPlans.{streams_fit}
use Rattle.law_key_facts.proofs.Draws.{draws as draw_facts}
use Rattle.ide_types.specs.Ports.{host_port, device_port}
use Rattle.ide_types.specs.Lines.{is_link_line, near_hop_line, far_hop_line}
use Rattle.ide_types.specs.declared.direction.Direction.TheVariants.{Downstream, Upstream}
use Rattle.ide_types.specs.declared.port.Side.TheVariants.{Host}
use Rattle.ide_types.specs.Ends.{link_hop, line_has}
use Rattle.ide_types.specs.Plans.{hop_has_id}
use Rattle.ide_types.specs.Fits.{FitsPlan}
use Rattle.ide_types.specs.declared.plan.HopPlan.{HopPlan}
use Rattle.spec_keys.specs.Places.{is_line_reset}
use Rattle.spec_links.specs.Delivered.{is_tlp_under_draw}
use Rattle.spec_links.specs.Hops.{HopTlp, has_hop, clears_hop}
use Rattle.spec_links.specs.HopLaws.{sealed_tlp, in_sub}
unfoldable use Rattle.spec_links.specs.HopLaws.{tlps_since_reset, draws_since}
use Rattle.spec_links.specs.Memory.{accepted_tlps, unit_ended}
use Rattle.event_verdicts.specs.declared.verdict.Verdict.TheVariants as v
use Rattle.law_delivery.specs.NoForgeryUnder.{NoForgeryUnder}
use Rattle.law_delivery.proofs.Closed.{all_map}
use Rattle.law_delivery.proofs.Deliveries.{delivery_law}
use Rattle.law_delivery.proofs.Prefixes.{got_begins}
use Rattle.law_reads.proofs.Taken.{tlps_of}
use Rattle.law_hops.proofs.Since.{IsSegment, marked}
unfoldable use Rattle.law_hops.proofs.Since.{mark}
use Rattle.law_hops.proofs.Carried.{InSub, both_begin, bytes_got, bytes_sent, flags, flags-append}
use Rattle.law_hops.proofs.Carried.{flags_got, flags_sent}
unfoldable use Rattle.law_hops.proofs.Carried.{hop_got, hop_sent}
use Rattle.law_hops.specs.LocalLaws.{LocalHopLawHolds, LocalCrossesInOrder, NoForgerySince}
use Rattle.law_hops.proofs.Crossing.{IsLone, OnlyDraw, none_got, taken_is, sealed_is, unit_sub, with_sub}
use Rattle.law_hops.proofs.Forwards.{in_order, each_in_order}

-- ---- one sub-stream under one draw

all_append : (u : SubKind) (xs ys : List HopTlp) → InSub u xs → InSub u ys → InSub u (xs ++ ys)
all_append u [] ys one two = two
all_append u (x ∷ xs) ys one two = (one.0, all_append u xs ys one.1 two)

got_sub : (plan : Plan) (h : History) → CauseLaw plan h → (s : SubStream) (j : ℕ) → InSub s.sub (hop_got plan h s j)
unfolding hop_got
got_sub plan [] cause s j = tt
got_sub plan ((e, Accepted port unit effects) ∷ h) cause s j =
    let before = got_sub plan h cause.1 s j in elim (cases_Bool (is_received_under s j port unit)) [
      | inl is ↦
          let tests = and_parts (is_same (received_in port unit) s) (unit.draw == j) is in
          let sub : unit.sub ≡ s.sub = ap (λ (t : SubStream). t.sub) (same_stream (received_in port unit) s tests.0) in
          let new = tlps_of plan port unit (unit_ended plan h e port unit) in
          rw is (all_append s.sub (hop_got plan h s j) new before (subst (λ (u : SubKind). InSub u new) sub
          (with_sub unit.sub _ (unit_ended plan h e port unit) (unit_sub plan h e port unit effects cause))))
      | inr other ↦ rw other before
    ]
got_sub plan (_ ∷ h) cause s j = got_sub plan h cause.1 s j

middle : (a b c : Bool) → (a && b && c) ≡ true → b ≡ true
middle a b c is = grind arith

carried_sub : (s : SubStream) (j : ℕ) (bytes : List ℕ) (ds : List SealedPacket)
    → InSub s.sub (map (sealed_tlp bytes) (filter (is_tlp_under_draw s j) ds))
carried_sub s j bytes [] = tt
carried_sub s j bytes (d ∷ ds) =
    let later = carried_sub s j bytes ds in elim (cases_Bool (is_tlp_under_draw s j d)) [
      | inl is ↦
          let same : is_same (sub_stream_of d) s ≡ true = middle (not d.sync) (is_same (sub_stream_of d) s)
          (d.draw == j) is in
          rw is (ap (λ (t : SubStream). t.sub) (same_stream (sub_stream_of d) s same), later)
      | inr other ↦ rw other later
    ]

sent_sub : (plan : Plan) (h : History) (s : SubStream) (j : ℕ) → InSub s.sub (hop_sent plan h s j)
unfolding hop_sent
sent_sub plan [] s j = tt
sent_sub plan ((e, Sealed ds) ∷ h) s j = all_append s.sub (hop_sent plan h s j) _ (sent_sub plan h s j)
    (carried_sub s j (sent_bytes plan h e) ds)
sent_sub plan (_ ∷ h) s j = sent_sub plan h s j

pub carried_in_order : (plan : Plan) → StreamsFit plan → DrawFacts plan → (h : History) → CauseLaw plan h
    → (s : SubStream) (j : ℕ) → NoForgeryUnder plan h s j → IsPrefixOf (hop_got plan h s j) (hop_sent plan h s j)
carried_in_order plan fits facts h cause s j forged =
    let bytes = subst₂ (λ (xs ys : List (List ℕ)). IsPrefixOf xs ys) (sym (bytes_got plan h s j))
    (sym (bytes_sent plan h s j)) (delivery_law plan fits facts h cause s j forged) in
    let begins = got_begins plan fits facts h cause s j forged in
    let ts = subst₂ (λ (xs ys : List Bool). IsPrefixOf xs ys) (sym (flags_got plan h s j))
    (sym (flags_sent plan facts h cause s j))
    (flags begins.0, sym (flags-append (accepted_packets plan h s j) begins.0) ∙ ap flags begins.1) in
    both_begin s.sub (hop_got plan h s j) (hop_sent plan h s j) (got_sub plan h cause s j)
    (sent_sub plan h s j) bytes ts

-- ---- one segment with one draw

marked_low : (h : History) (link line : ℕ) → IsSegment link line → mark h link ≤ draws h
marked_low h link line segment =
    (marked h link (record { side = Host; line = line; stream = 0; sends = true; sub = Pr }) segment).low

pub since_marked : (h : History) (link line : ℕ) → IsSegment link line
    → AllByRecursion (λ (j : ℕ). mark h link ≤ j) (draws_since h link line)
unfolding draws_since mark
since_marked [] link line segment = tt
since_marked ((Establish l s loss, w) ∷ h) link line segment =
    by ((l == line) && begins_keyed (op_of h l s) (draws h) w) (since_marked h link line segment)
  where
    by : (b : Bool) → AllByRecursion (λ (j : ℕ). mark h link ≤ j) (draws_since h link line)
        → AllByRecursion (λ (j : ℕ). mark h link ≤ j) (if b then draws h ∷ draws_since h link line
        else draws_since h link line)
    by true before = (marked_low h link line segment, before)
    by false before = before
since_marked ((Reset k ends, v.Reset l) ∷ h) link line segment =
    by (clears_hop ends link) (since_marked h link line segment)
  where
    by : (b : Bool) → AllByRecursion (λ (j : ℕ). mark h link ≤ j) (draws_since h link line)
        → AllByRecursion (λ (j : ℕ). (if b then draws h else mark h link) ≤ j)
        (if b then [] else draws_since h link line)
    by true before = tt
    by false before = before
since_marked ((e, w) ∷ h) link line segment = since_marked h link line segment

-- a draw that stands for all since then; what is said of these, and of draws that have not begun, holds of it
pub record TheDraw (P : ℕ → Type 0) (h : History) (link line : ℕ) : Type 0 where
  pub draw : ℕ
  pub is : OnlyDraw h link line draw
  pub holds : P draw

pub the_draw : (P : ℕ → Type 0) (h : History) (link line : ℕ) → IsSegment link line
    → length (draws_since h link line) ≤ 1
    → ((j : ℕ) → draws h ≤ j → P j) → AllByRecursion P (draws_since h link line) → TheDraw P h link line
the_draw P h link line segment most later each =
    by (draws_since h link line) refl (since_marked h link line segment) most each
  where
    by : (js : List ℕ) → draws_since h link line ≡ js → AllByRecursion (λ (j : ℕ). mark h link ≤ j) js
        → length js ≤ 1 → AllByRecursion P js → TheDraw P h link line
    by [] is all most each = record {
      draw = draws h;
      is = record { only = rw is tt; up = marked_low h link line segment };
      holds = later (draws h) (omega arith);
    }
    by (j ∷ []) is all most each =
        record { draw = j; is = record { only = rw is (refl, tt); up = all.0 }; holds = each.0 }
    by (j ∷ i ∷ js) is all most each = absurd (omega (arith, most))

pub lane_of_partner : (q : PortName) (stream : ℕ) (u : SubKind) → lane_in q stream u ≡ lane_out (partner q) stream u
lane_of_partner q stream u = grind arith

segment_crosses : (plan : Plan) → FitsPlan plan → (h : History) → CauseLaw plan h → (link : ℕ)
    (q : PortName) (stream : ℕ) (u : SubKind) → IsSegment link q.line → IsLone plan q.line stream
    → length (draws_since h link q.line) ≤ 1 → NoForgerySince plan h link q stream u
    → IsPrefixOf (in_sub u (accepted_tlps plan h link q)) (in_sub u (tlps_since_reset plan h link (partner q)))
segment_crosses plan fits h cause link q stream u segment lone most forged =
    let facts = draw_facts plan in
    let s = lane_in q stream u in
    let d = the_draw (λ (j : ℕ). IsPrefixOf (hop_got plan h s j) (hop_sent plan h s j)) h link q.line segment most
    (λ j up. (hop_sent plan h s j, rw (none_got plan h cause s j up) refl))
    (all_map (λ (j : ℕ). NoForgeryUnder plan h s j) (λ (j : ℕ). IsPrefixOf (hop_got plan h s j) (hop_sent plan h s j))
    (draws_since h link q.line) (carried_in_order plan (streams_fit plan fits) facts h cause s) forged) in
    let one = taken_is plan h cause link q stream u d.draw segment lone d.is in
    let two = sealed_is plan facts h cause link (partner q) stream u d.draw segment lone d.is
    ∙ ap (λ (t : SubStream). hop_sent plan h t d.draw) (sym (lane_of_partner q stream u)) in
    subst₂ (λ (xs ys : List HopTlp). IsPrefixOf xs ys) (sym one) (sym two) d.holds

-- ---- a hop

pub record HasHop (plan : Plan) (link : ℕ) : Type 0 where
  pub below : link < 8
  pub hop : HopPlan
  pub is : link_hop (slice_get plan.links link) ≡ Some hop

pub few_links : (plan : Plan) (link : ℕ) → has_hop plan link ≡ true → link < 8
few_links plan link known =
    let tests = and_parts (is_link_line link) (is_some (link_hop (slice_get plan.links link))) known in
    grind (arith, nat_tests, tests.0)

one_id : (o : HopPlan) (t : ℕ) → hop_has_id (Some o) t ≡ true → t ≡ o.id
one_id o t is = sym (eqb-true o.id t is)

pub near_lone : (plan : Plan) → FitsPlan plan → (link : ℕ) (x : HasHop plan link)
    → IsLone plan (near_hop_line link) x.hop.id
near_lone plan fits link x t some =
    let there : line_has plan (8 + link) t ≡ true = sym (stream_is_there plan (8 + link) t) ∙ some in
    let less = x.below in
    let a : nat_lt (8 + link) 8 ≡ false = grind (arith, nat_tests) in
    let b : nat_lt (8 + link) 16 ≡ true = grind (arith, nat_tests) in
    let place : 8 + link - 8 ≡ link = omega arith in
    one_id x.hop t (rw (a, b, place, x.is) at there)

pub far_lone : (plan : Plan) → FitsPlan plan → (link : ℕ) (x : HasHop plan link)
    → IsLone plan (far_hop_line link) x.hop.id
far_lone plan fits link x t some =
    let there : line_has plan (16 + link) t ≡ true = sym (stream_is_there plan (16 + link) t) ∙ some in
    let less = x.below in
    let a : nat_lt (16 + link) 8 ≡ false = grind (arith, nat_tests) in
    let b : nat_lt (16 + link) 16 ≡ false = grind (arith, nat_tests) in
    let c : nat_lt (16 + link) 24 ≡ true = grind (arith, nat_tests) in
    let place : 16 + link - 16 ≡ link = omega arith in
    one_id x.hop t (rw (a, b, c, place, x.is) at there)

both_cut : (ends : List PortName) (link : ℕ) → clears_hop ends link ≡ true
    → (is_line_reset ends (near_hop_line link) ≡ true) × (is_line_reset ends (far_hop_line link) ≡ true)
both_cut ends link is = and_parts (is_line_reset ends (near_hop_line link)) (is_line_reset ends (far_hop_line link)) is

pub near_segment : (link : ℕ) → link < 8 → IsSegment link (near_hop_line link)
near_segment link less = (grind (arith, nat_tests), grind (arith, nat_tests), λ ends is. (both_cut ends link is).0)

pub far_segment : (link : ℕ) → link < 8 → IsSegment link (far_hop_line link)
far_segment link less = (grind (arith, nat_tests), grind (arith, nat_tests), λ ends is. (both_cut ends link is).1)

joined : (xs ys zs : List HopTlp) → IsPrefixOf xs ys → IsPrefixOf ys zs → IsPrefixOf xs zs
joined xs ys zs one two = (
  one.0 ++ two.0,
  sym (append_assoc xs one.0 two.0) ∙ (ap (λ (ws : List HopTlp). ws ++ two.0) one.1 ∙ two.1),
)

cross_locally : (plan : Plan) → FitsPlan plan → (h : History) → CauseLaw plan h → LocalCrossesInOrder plan h
cross_locally plan fits h cause link hop Downstream u known is one near far =
    let x : HasHop plan link = record { below = few_links plan link known; hop = hop; is = is } in
    let first = segment_crosses plan fits h cause link (device_port (near_hop_line link)) hop.id u
    (near_segment link x.below) (near_lone plan fits link x) one.near near in
    let last = segment_crosses plan fits h cause link (device_port (far_hop_line link)) hop.id u
    (far_segment link x.below) (far_lone plan fits link x) one.far far in
    joined _ _ _ last (joined _ _ _ (each_in_order plan fits h cause link Downstream u known) first)
cross_locally plan fits h cause link hop Upstream u known is one far near =
    let x : HasHop plan link = record { below = few_links plan link known; hop = hop; is = is } in
    let first = segment_crosses plan fits h cause link (host_port (far_hop_line link)) hop.id u
    (far_segment link x.below) (far_lone plan fits link x) one.far far in
    let last = segment_crosses plan fits h cause link (host_port (near_hop_line link)) hop.id u
    (near_segment link x.below) (near_lone plan fits link x) one.near near in
    joined _ _ _ last (joined _ _ _ (each_in_order plan fits h cause link Upstream u known) first)

pub hop_law : LocalHopLawHolds
hop_law plan fits h cause = record {
  whole = in_order plan fits h cause;
  each = each_in_order plan fits h cause;
  crosses = cross_locally plan fits h cause;
}
