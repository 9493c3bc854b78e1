-- Draws that are On against those of sealed packets and accepted units: they never fall. No draw that is On is below
-- those that were used at its place, and a packet is sealed under the least that is On. So draws rise, by induction on
-- the history, and in a send packet by packet. Packets of draws from Base on were sealed since it is Base, because Base
-- changes only to a draw that was not made yet, of which nothing was sealed.
use Rattle.spec_links.proofs.Terms.{Bool, List, None, Option, Some, [], ap, arith, false, filter, inl, inr, length}
use Rattle.spec_links.proofs.Terms.{refl, slice_get, subst, suc, sym, true, zero, ℕ, ◌++◌, ◌+◌, ◌<◌, ◌==◌, ◌∙◌, ◌∷◌}
use Rattle.spec_links.proofs.Terms.{◌≡◌, ◌≤◌, nat_tests, slice_get_within, max, Loss, Operation, base, begins_keyed}
use Rattle.spec_links.proofs.Terms.{touches_after, draws, manager, moments, touches, touches_if, Accept, Touch}
use Rattle.spec_links.proofs.Terms.{StreamOperations, Reach, manager_after_operation, reach_of, work_of, is_on_stream}
use Rattle.spec_links.proofs.Terms.{is_same_side, is_same_sub, CauseLaw, due, KeyName, SealedList, ahead_of_packet}
use Rattle.spec_links.proofs.Terms.{draws_got, is_sealed_from_draw, port_keys, lesser, packet_of, place_in_sub_stream}
use Rattle.spec_links.proofs.Terms.{received_in, sealed_packets, sub_stream_packets, sub_stream_of, with_sealed}
use Rattle.spec_links.proofs.Terms.{BaseStays, is_quiet, SubStream, is_same, lane_in, lane_out, AllByRecursion, Effect}
use Rattle.spec_links.proofs.Terms.{Establish, Event, History, Keyed, Keys, On, Packet, Plan, PortName, Refresh, Reset}
use Rattle.spec_links.proofs.Terms.{SealedPacket, Stop, SubKind, UnitName, Verdict, if◌then◌else◌, key_in, not, ◌&&◌}
use Rattle.spec_links.proofs.Terms.{open_unit, sent_bytes}
use Rattle.spec_links.proofs.Senders.{on_live}
use Rattle.spec_keys.proofs.Shapes.{draws_used}
use Rattle.spec_keys.proofs.Whole.{more_begun}
use Rattle.spec_links.proofs.Tests.{same_stream, same_in, is_same-refl}
use Rattle.spec_links.proofs.KeyVerdicts.{establish_due_quiet}
use Rattle.spec_links.proofs.LastPlaces.{place_of_last, all_of}
use Rattle.spec_links.proofs.SealingIs.{sending_port, is_sealing, sealed_by_sealing, sealing_base, quiet_seals_none}
use Rattle.spec_links.proofs.SealingIs.{IsLive, AllLive, sealing_is, all_live, seals_none}
use Rattle.law_key_facts.proofs.Seats.{keys_out, keys_into, live_here}
use Rattle.law_key_facts.proofs.RealFacts.{used_most, accepted_touches}
use Rattle.law_key_facts.proofs.Moments.{earlier_used, none_in, none_left, sends_lane}
use Rattle.law_key_facts.proofs.SealedKeys.{live_all, live_below}
use Rattle.event_verdicts.specs.declared.verdict.Operation.TheVariants as op
use Rattle.event_verdicts.specs.declared.verdict.Verdict.TheVariants as v

-- ---- no draw that is On at a sender is below what was sealed there

none_at : {A : Type 0} (p : A → Bool) (xs : List A) (i : ℕ) (x : A) → filter p xs ≡ [] → slice_get xs i ≡ Some x → p x
    ≡ false
none_at p [] i x none at = absurd cc
none_at p (y ∷ xs) zero x none at = let same : x ≡ y = cc in ap p same ∙ (none_left (p y) y (filter p xs) none).0
none_at p (y ∷ xs) (suc i) x none at = none_at p xs i x (none_left (p y) y (filter p xs) none).1 at

pub on_above : (plan : Plan) (h : History) → CauseLaw plan h → (port : PortName) (stream : ℕ) (u : SubKind) (k : Bool)
    (j : ℕ) → key_in (port_keys h port (lane_out port stream u)) k ≡ On j
    → (i : ℕ) (x : SealedPacket × Packet) → slice_get (sealed_packets plan h) i ≡ Some x
    → is_same (sub_stream_of x.0) (lane_out port stream u) ≡ true → x.0.draw ≤ j
on_above plan h law port stream u k j on i x at same =
    let s = lane_out port stream u in
    let most = used_most plan h law (place_in_sub_stream port s true) k j
    (ap (λ (ks : Keys). key_in ks k) (sym (keys_out h port stream u)) ∙ on) in
    let none = none_at (is_sealed_from_draw s (j + 1)) (sealed_packets plan h) i x
    (none_in plan h law port s (j + 1) (sends_lane port stream u) most) at in
    grind (arith, nat_tests)

-- no draw that is On where a sub-stream is sealed is below what was sealed there
abbrev pub Above : History → SealedPacket → Type 0
Above h d = (k : Bool) (j : ℕ) → key_in (port_keys h d.port (sub_stream_of d)) k ≡ On j → d.draw ≤ j

abbrev pub AllAbove : History → SealedList → Type 0
AllAbove h xs = (i : ℕ) (x : SealedPacket × Packet) → slice_get xs i ≡ Some x → Above h x.0

pub all_above : (plan : Plan) (h : History) → CauseLaw plan h → AllAbove h (sealed_packets plan h)
all_above plan h law i x at k j on = on_above plan h law x.0.port x.0.stream x.0.sub k j on i x at
    (is_same-refl (sub_stream_of x.0))

-- ---- sealed draws never fall

-- the Live one is the least that is On
least : (a b : Keyed) (key : KeyName) → lesser a b ≡ Some key → (k : Bool) (j : ℕ)
    → key_in (record { first = a; second = b }) k ≡ On j → key.draw ≤ j
least a b key live k j on = grind (arith, nat_tests)

live_above : (plan : Plan) (h : History) (port : PortName) (stream : ℕ) (d : SealedPacket) → IsLive plan h port stream d
    → Above h d
live_above plan h port stream d live k j on =
    let keys = port_keys h d.port (sub_stream_of d) in
    let key = live_here plan h port stream d live d.port d.stream d.sub (is_same-refl (sub_stream_of d)) in
    let most = least keys.first keys.second live.key key k j on in
    omega (arith, most, live.draw)

-- draws of a sub-stream rise in a list
abbrev pub RisesIn : SealedList → Type 0
RisesIn xs = (s : SubStream) (i k : ℕ) (x y : SealedPacket × Packet) → i ≤ k → slice_get xs i ≡ Some x → slice_get xs k
    ≡ Some y → is_same (sub_stream_of x.0) s ≡ true → is_same (sub_stream_of y.0) s ≡ true
    → x.0.draw ≤ y.0.draw

rises-snoc : (xs : SealedList) (z : SealedPacket × Packet) → RisesIn xs
    → ((i : ℕ) (x : SealedPacket × Packet) → slice_get xs i ≡ Some x → sub_stream_of x.0 ≡ sub_stream_of z.0
    → x.0.draw ≤ z.0.draw) → RisesIn (xs ++ z ∷ [])
rises-snoc xs z before last s i k x y le at_x at_y in_x in_y = elim (place_of_last xs z x i at_x) [
  | inl p ↦ elim (place_of_last xs z y k at_y) [
    | inl q ↦ before s i k x y le p q in_x in_y
    | inr q ↦
        let same : sub_stream_of x.0 ≡ sub_stream_of z.0 = same_stream (sub_stream_of x.0) s in_x ∙
        (sym (same_stream (sub_stream_of y.0) s in_y) ∙ ap (λ (w : SealedPacket × Packet). sub_stream_of w.0)
        (sym q.0)) in
        let less = last i x p same in
        subst (λ (w : SealedPacket × Packet). x.0.draw ≤ w.0.draw) q.0 less
  ]
  | inr p ↦ elim (place_of_last xs z y k at_y) [
    | inl q ↦ let below = slice_get_within xs k y q in absurd (omega (arith, below, le, p.1))
    | inr q ↦
        let same : x.0.draw ≡ y.0.draw = ap (λ (w : SealedPacket × Packet). w.0.draw) (sym p.0 ∙ q.0) in
        omega (arith, same)
  ]
]

below_live : (plan : Plan) (h : History) (port : PortName) (stream : ℕ) (d x : SealedPacket)
    → IsLive plan h port stream d → Above h x → sub_stream_of x ≡ sub_stream_of d → x.draw ≤ d.draw
below_live plan h port stream d x live above same =
    let keys = port_keys h x.port (sub_stream_of x) in
    let here : is_same (sub_stream_of d) (sub_stream_of x) ≡ true = ap (is_same (sub_stream_of d)) same ∙ is_same-refl
    (sub_stream_of d) in
    let key = live_here plan h port stream d live x.port x.stream x.sub here in
    let most = above live.key.k live.key.draw (on_live keys.first keys.second live.key key) in
    omega (arith, most, live.draw)

with_rises : (plan : Plan) (h : History) (port : PortName) (stream : ℕ) (ahead : SealedPacket → List ℕ) (bytes : List ℕ)
    (ds : List SealedPacket) (xs : SealedList) → AllLive plan h port stream ds → AllAbove h xs → RisesIn xs
    → RisesIn (with_sealed plan ahead bytes ds xs)
with_rises plan h port stream ahead bytes [] xs all above rises = rises
with_rises plan h port stream ahead bytes (d ∷ ds) xs all above rises =
    let z : SealedPacket × Packet =
    (d, packet_of plan (ahead d) bytes d (open_unit (sub_stream_packets xs (sub_stream_of d) d.draw))) in
    with_rises plan h port stream ahead bytes ds (xs ++ z ∷ []) all.1
    (λ i x is. elim (place_of_last xs z x i is) [
      | inl p ↦ above i x p
      | inr p ↦ subst (λ (w : SealedPacket × Packet). Above h w.0) p.0 (live_above plan h port stream d all.0)
    ])
    (rises-snoc xs z rises (λ i x is same. below_live plan h port stream d x.0 all.0 (above i x is) same))

pub rises : (plan : Plan) (h : History) → CauseLaw plan h → RisesIn (sealed_packets plan h)
unfolding sealed_packets
rises plan [] law = λ s i k x y le at_x at_y in_x in_y. absurd cc
rises plan ((e, v.Sealed ds) ∷ h) law =
    let is = sealing_is plan h e ds law.0 in
    with_rises plan h is.sending.port is.sending.stream (ahead_of_packet plan (sealed_packets plan h) (base h))
    (sent_bytes plan h e) ds (sealed_packets plan h) (all_live plan h (sending_port plan h e) (sent_bytes plan h e) ds
    is)
    (all_above plan h law.1) (rises plan h law.1)
rises plan ((e, w) ∷ h) law = rises plan h law.1

-- ---- no draw that is On at a receiver is below what was accepted there

accept_lane : (q : PortName) (stream : ℕ) (u : SubKind) (port : PortName) (unit : UnitName)
    → let s = lane_in q stream u in
    is_same (received_in port unit) s ≡ true
    → (not false && is_same_side q.side port.side && is_on_stream (place_in_sub_stream q s false) port.line unit.stream
    && is_same_sub u unit.sub) ≡ true
accept_lane q stream u port unit here = let sides = same_in port.side q.side in grind (arith, nat_tests)

accepted_used : (plan : Plan) (h : History) (e : Event) (port : PortName) (unit : UnitName) (effects : List Effect)
    → v.Accepted port unit effects ≡ due plan h e → (q : PortName) (stream : ℕ) (u : SubKind) (n : ℕ)
    → is_same (received_in port unit) (lane_in q stream u) ≡ true
    → draws_used (moments ((e, v.Accepted port unit effects) ∷ h) (place_in_sub_stream q (lane_in q stream u) false))
    ≤ n
    → unit.draw < n
unfolding moments draws_used
accepted_used plan h e port unit effects is q stream u n here le =
    let s = lane_in q stream u in
    let p = place_in_sub_stream q s false in
    let test = accept_lane q stream u port unit here in
    let touched : touches (manager h).ops (draws h) e (v.Accepted port unit effects) p ≡ Accept unit.draw
    ∷ [] = accepted_touches plan h e port unit effects is p ∙ ap (λ (b : Bool). touches_if b (Accept unit.draw)) test in
    let most : max (unit.draw + 1) (draws_used (moments h p)) ≤ n = subst
    (λ (ts : List Touch). draws_used (touches_after (moments h p) ts) ≤ n) touched le in
    omega (arith, most)

got_below : (plan : Plan) (h : History) → CauseLaw plan h → (q : PortName) (stream : ℕ) (u : SubKind) (j : ℕ)
    → draws_used (moments h (place_in_sub_stream q (lane_in q stream u) false)) ≤ j + 1
    → AllByRecursion (λ (i : ℕ). i ≤ j) (draws_got h (lane_in q stream u))
unfolding draws_got
got_below plan [] law q stream u j le = tt
got_below plan ((e, v.Accepted port unit effects) ∷ h) law q stream u j le =
    by_test (is_same (received_in port unit) s) refl
    (got_below plan h law.1 q stream u j
    (earlier_used h e (v.Accepted port unit effects) (place_in_sub_stream q s false) (j + 1) le))
  where
    s : SubStream
    s = lane_in q stream u

    by_test : (b : Bool) → is_same (received_in port unit) s ≡ b → AllByRecursion (λ (i : ℕ). i ≤ j) (draws_got h s)
        → AllByRecursion (λ (i : ℕ). i ≤ j) (if b then unit.draw ∷ draws_got h s else draws_got h s)
    by_test true here before = (
      let less = accepted_used plan h e port unit effects law.0 q stream u (j + 1) here le in omega (arith, less),
      before,
    )
    by_test false here before = before
got_below plan ((e, w) ∷ h) law q stream u j le = got_below plan h law.1 q stream u j
    (earlier_used h e w (place_in_sub_stream q (lane_in q stream u) false) (j + 1) le)

pub above_got : (plan : Plan) (h : History) → CauseLaw plan h
    → (port : PortName) (stream : ℕ) (u : SubKind) (k : Bool) (j : ℕ) → let s = lane_in port stream u in
    key_in (port_keys h port s) k ≡ On j → AllByRecursion (λ (i : ℕ). i ≤ j) (draws_got h s)
above_got plan h law port stream u k j on =
    let most = used_most plan h law (place_in_sub_stream port (lane_in port stream u) false) k j
    (ap (λ (ks : Keys). key_in ks k) (sym (keys_into h port stream u)) ∙ on) in
    got_below plan h law port stream u j most

-- ---- Base

establish_seals_none : (plan : Plan) (h : History) (l s : ℕ) (loss : Option Loss) (w : Verdict) → w
    ≡ due plan h (Establish l s loss) → seals_none w ≡ true
establish_seals_none plan h l s loss w is = quiet_seals_none w (ap is_quiet is ∙ establish_due_quiet plan h l s loss)

operated_more : (m : StreamOperations) (o : Operation) (l s : ℕ) (r : Option Reach)
    → length m.begun ≤ length (manager_after_operation m o l s r).begun
operated_more m o l s None = omega arith
operated_more m o l s (Some r) = more_begun m.begun l s (work_of o (m.ops l s) (length m.begun))

draws_more : (h : History) (e : Event) (w : Verdict) → draws h ≤ draws ((e, w) ∷ h)
unfolding manager
draws_more h (Establish l s loss) w = operated_more (manager h) op.Establish l s (reach_of op.Establish w)
draws_more h (Refresh l s loss) w = operated_more (manager h) op.Refresh l s (reach_of op.Refresh w)
draws_more h (Stop l s loss) w = operated_more (manager h) op.Stop l s (reach_of op.Stop w)
draws_more h (Reset l ends) (v.Reset n) = omega arith
draws_more h e w = omega arith

rest_stays : (plan : Plan) (s : SubStream) (from : ℕ) (h : History) (e : Event) (w : Verdict) → seals_none w ≡ true
    → BaseStays plan s from h → BaseStays plan s from ((e, w) ∷ h)
rest_stays plan s from h e (v.Sealed ds) none stays = absurd cc
rest_stays plan s from h e w none stays = stays

-- of draws that were not made nothing was sealed
none_stays : (plan : Plan) (h : History) → CauseLaw plan h → (s : SubStream) (n : ℕ) → draws h ≤ n
    → BaseStays plan s n h
none_stays plan [] law s n le = tt
none_stays plan ((e, v.Sealed ds) ∷ h) law s n le =
    let sealing = sealing_is plan h e ds law.0 in
    let grown = draws_more h e (v.Sealed ds) in (
      live_all _ plan h sealing.sending.port sealing.sending.stream ds
          (λ d live here up. absurd
          (let below = live_below plan h sealing.sending.port sealing.sending.stream d live in omega
          (arith, below, up, grown, le)))
          (all_live plan h (sending_port plan h e) (sent_bytes plan h e) ds sealing),
      none_stays plan h law.1 s n (omega (arith, grown, le)),
    )
none_stays plan ((e, w) ∷ h) law s n le = let more = draws_more h e w in rest_stays plan s n h e w refl
    (none_stays plan h law.1 s n (omega (arith, more, le)))

sealed_stays : (plan : Plan) (h : History) (e : Event) (ds : List SealedPacket) (s : SubStream) → is_sealing e ≡ true
    → BaseStays plan s (base h s.line s.stream) h
    → BaseStays plan s (base ((e, v.Sealed ds) ∷ h) s.line s.stream) ((e, v.Sealed ds) ∷ h)
sealed_stays plan h e ds s seals stays = subst (λ (n : ℕ). BaseStays plan s n ((e, v.Sealed ds) ∷ h))
    (sym (sealing_base h e (v.Sealed ds) s.line s.stream seals)) (all_of _ (λ d here up. refl) ds, stays)

pub since_base : (plan : Plan) (h : History) → CauseLaw plan h → (s : SubStream)
    → BaseStays plan s (base h s.line s.stream) h
unfolding base
since_base plan [] law s = tt
since_base plan ((e, v.Sealed ds) ∷ h) law s = sealed_stays plan h e ds s (sealed_by_sealing plan h e ds law.0)
    (since_base plan h law.1 s)
since_base plan ((Establish l t loss, w) ∷ h) law s = by_test (since_base plan h law.1 s)
    ((l == s.line) && (t == s.stream) && begins_keyed ((manager h).ops l t) (draws h) w)
  where
    by_test : BaseStays plan s (base h s.line s.stream) h → (b : Bool)
        → BaseStays plan s (if b then draws h else base h s.line s.stream) ((Establish l t loss, w) ∷ h)
    by_test before true = rest_stays plan s (draws h) h (Establish l t loss) w
        (establish_seals_none plan h l t loss w law.0) (none_stays plan h law.1 s (draws h) (omega arith))
    by_test before false = rest_stays plan s (base h s.line s.stream) h (Establish l t loss) w
        (establish_seals_none plan h l t loss w law.0) before
since_base plan ((e, w) ∷ h) law s = rest_stays plan s (base h s.line s.stream) h e w refl (since_base plan h law.1 s)
