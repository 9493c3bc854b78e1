-- What came before a packet that ends its unit when it was sealed, and what comes before it when it arrives in order.
use Rattle.law_sealing.proofs.Terms.{◌≡◌, ℕ, suc, ◌+◌, ◌<◌, ◌≤◌, ◌==◌, ◌&&◌, true, false, List, [], ◌∷◌, ◌++◌, length}
use Rattle.law_sealing.proofs.Terms.{take, slice_get, Some, refl, ap, sym, ◌∙◌, arith, length-append, inl, inr}
use Rattle.law_sealing.proofs.Terms.{AllByRecursion, list_any, eqb-true, leb-true, and_parts, cases_Bool}
use Rattle.law_sealing.proofs.Terms.{false_from_ne_true, nat_tests, take-append-le, PortName, Sealed, SealedPacket}
use Rattle.law_sealing.proofs.Terms.{Packet, Plan, SubStream, is_same, is_closed, lane_in, units, open_unit, History}
use Rattle.law_sealing.proofs.Terms.{base, On, key_in, port_keys, SealedList, sealed_packets, packet_of}
use Rattle.law_sealing.proofs.Terms.{sub_stream_packets, is_sealed_under, sub_stream_of, units_got, draws_got}
use Rattle.law_sealing.proofs.Terms.{ahead_of_unit, ahead_sent, ahead_due, is_of_unit, ahead_of_packet, CauseLaw}
use Rattle.law_sealing.proofs.Terms.{DrawFacts, StreamsFit, is_same-refl, units-end, sub_stream_packets-snoc}
use Rattle.law_sealing.proofs.Terms.{received_direction, IsOn, Prefix, sent_bytes}
use Rattle.law_delivery.proofs.Orders.{is_drawn, below_next}
use Rattle.law_sealing.proofs.Places.{Placed, placed, unit_is}
use Rattle.law_sealing.proofs.Totals.{total-same}
use Rattle.law_sealing.proofs.Sums.{next_taken, units_within, since_total}
use Rattle.law_sealing.proofs.Fronts.{packets_grow, at_front, IsSealedIn, any_new, old_or_new}
use Rattle.law_sealing.proofs.FirstFronts.{front_is, last_none, units_sent, unit_parts, of_unit}
use Rattle.law_delivery.proofs.GotUnits.{got_units}
use Rattle.law_delivery.proofs.Closed.{Older}

-- ---- of what was sealed

-- it was sealed with what comes ahead of its unit
pub record IsFronted (plan : Plan) (h : History) (xs : SealedList) (place : ℕ) (x : SealedPacket × Packet) : Type 0
  where
    pub bytes : List ℕ
    pub packet : x.1 ≡ packet_of plan (ahead_sent plan h (sub_stream_of x.0) x.0.draw x.0.unit) bytes x.0
        (open_unit (sub_stream_packets (take place xs) (sub_stream_of x.0) x.0.draw))

-- after a packet that ends its unit, packets of its sub-stream and draw are of later units
later_unit : (plan : Plan) (ys : SealedList) → Placed plan ys → (i k : ℕ) (x z : SealedPacket × Packet) → slice_get ys i
    ≡ Some x → slice_get ys k ≡ Some z → i < k → x.0.m ≡ true → (s : SubStream) (j : ℕ)
    → sub_stream_of x.0 ≡ s → x.0.draw ≡ j → sub_stream_of z.0 ≡ s → z.0.draw ≡ j → x.0.unit < z.0.unit
later_unit plan ys places i k x z at_x at_z less m s j x_stream x_draw z_stream z_draw =
    let m_is = ap (λ (f : Prefix). f.m) (places i x at_x).prefix ∙ m in
    let test : is_sealed_under s j x ≡ true = grind
    (arith, nat_tests, ap (λ (t : SubStream). is_same t s) x_stream ∙ is_same-refl s) in
    let joins = ap (λ (zs : SealedList). sub_stream_packets zs s j) (next_taken ys i x at_x) ∙ sub_stream_packets-snoc
    (take i ys) x s j in
    let unfinished = sub_stream_packets (take i ys) s j in
    let counted : length (units (sub_stream_packets (take (suc i) ys) s j)) ≡ length (units unfinished) + 1 =
    rw (joins, test, units-end unfinished x.1 m_is)
    (length-append (units unfinished) ((open_unit unfinished ++ x.1 ∷ []) ∷ [])) in
    let within = units_within ys s j (suc i) k (omega (arith, less)) in
    omega (
      arith,
      unit_is plan ys places i x at_x s j x_stream x_draw,
      unit_is plan ys places k z at_z s j z_stream
          z_draw,
      counted,
      within,
    )

pub fronted : (plan : Plan) → StreamsFit plan → DrawFacts plan → (h : History) → CauseLaw plan h
    → (place : ℕ) (x : SealedPacket × Packet)
    → slice_get (sealed_packets plan h) place ≡ Some x → x.0.m ≡ true → IsFronted plan h (sealed_packets plan h) place x
unfolding sealed_packets ahead_sent
fronted plan fits facts [] law place x at m = absurd cc
fronted plan fits facts ((e, Sealed ds) ∷ h) law place x at m =
    let before = λ (old : slice_get (sealed_packets plan h) place ≡ Some x). fronted plan fits facts h law.1 place x old
    m in
    elim (old_or_new plan ahead (sent_bytes plan h e) ds (sealed_packets plan h) place x at) [
      | inl old ↦
          let was = before old in
          let unfinished = ap (take place) (sym grown.1) ∙ take-append-le place (sealed_packets plan h) grown.0
          (omega (arith, within old)) in
          record { bytes = was.bytes; packet = rw (none_of_unit old, unfinished) was.packet }
      | inr new ↦ record {
        bytes = sent_bytes plan h e;
        packet = rw (new.among (is_of_unit s j n) (of_unit s j n x.0 refl refl refl)) new.packet;
      }
    ]
  where
    g : History
    g = (e, Sealed ds) ∷ h

    ahead : SealedPacket → List ℕ
    ahead = ahead_of_packet plan (sealed_packets plan h) (base h)

    s : SubStream
    s = sub_stream_of x.0

    j : ℕ
    j = x.0.draw

    n : ℕ
    n = x.0.unit

    grown : (rest : SealedList) × (sealed_packets plan h ++ rest ≡ sealed_packets plan g)
    grown = packets_grow plan h e (Sealed ds)

    within : slice_get (sealed_packets plan h) place ≡ Some x → place < length (sealed_packets plan h)
    within old = (at_front (sealed_packets plan h) grown.0 place x old).1

    -- the packets that follow it are of later units
    none_of_unit : slice_get (sealed_packets plan h) place ≡ Some x
        → list_any (is_of_unit (sub_stream_of x.0) x.0.draw x.0.unit) ds ≡ false
    none_of_unit old =
        false_from_ne_true _ (λ some.
        let new = any_new (is_of_unit s j n) plan ahead (sent_bytes plan h e) ds (sealed_packets plan h) some in
        let of = unit_parts s j n new.1.0 new.3 in
        let places = placed plan fits facts g law in
        let later = later_unit plan (sealed_packets plan g) places place new.0 x new.1 at new.2
        (omega (arith, within old, new.4)) m s j refl refl of.0 of.1 in
        omega (arith, later, of.2))
fronted plan fits facts ((e, w) ∷ h) law place x at m = let before = fronted plan fits facts h law.1 place x at m in
    record { bytes = before.bytes; packet = before.packet }

-- ---- of what arrives in order

pub no_front : (plan : Plan) (h : History) (s : SubStream) (j n : ℕ) → (is_closed plan s.line s.stream && (n == 1))
    ≡ false
    → ahead_sent plan h s j n ≡ []
unfolding ahead_sent ahead_of_unit
no_front plan [] s j n off = refl
no_front plan ((e, Sealed ds) ∷ h) s j n off = grind (arith, no_front plan h s j n off, off)
no_front plan (_ ∷ h) s j n off = no_front plan h s j n off

pub due_off : (plan : Plan) (h : History) (s : SubStream) (n : ℕ) → (is_closed plan s.line s.stream && (n == 1)) ≡ false
    → ahead_due plan h s n ≡ []
unfolding ahead_of_unit
due_off plan h s n off = rw off refl

-- what the receiver puts before it is what the sender put before it
pub same_fronts : (plan : Plan) → StreamsFit plan → DrawFacts plan → (h : History) → CauseLaw plan h
    → (port : PortName) (s : SubStream) (j : ℕ) → (port.line ≡ s.line) × (received_direction port.side ≡ s.direction)
    → IsOn plan h port s j → IsSealedIn plan h s j
    → (units_got h s j ≡ 0 → is_closed plan s.line s.stream ≡ true → Older plan h s j)
    → ahead_sent plan h s j (units_got h s j + 1) ≡ ahead_due plan h s (units_got h s j + 1)
same_fronts plan fits facts h law port s j receiver live x older = elim
    (cases_Bool (is_closed plan s.line s.stream && (units_got h s j + 1 == 1))) [
      | inl here ↦
          let tests = and_parts (is_closed plan s.line s.stream) (units_got h s j + 1 == 1) here in
          let one = eqb-true (units_got h s j + 1) 1 tests.1 in
          let none : units_got h s j ≡ 0 = omega (arith, one) in
          let least = leb-true _ _ (facts.from_base h law port s live.0 j on) in
          let received = since_total h s from (suc j) (below_next j (draws_got h s) above) ∙ last_none from j
          (λ k. units_got h s k) none in
          let sums = total-same from j (units_sent plan h s) (λ k. units_got h s k)
          (λ k up less. ap (λ (ps : List Packet). length (units ps)) (sym (older none tests.0 k up less)) ∙
          (got_units plan h law s k).count) in
          ap (ahead_sent plan h s j) one
          ∙ (front_is plan fits facts h law s j x least ∙
          (ap (ahead_of_unit plan s 1) (sums ∙ sym received) ∙ ap (ahead_due plan h s) (sym one)))
      | inr off ↦ no_front plan h s j (units_got h s j + 1) off ∙ sym (due_off plan h s (units_got h s j + 1) off)
    ]
  where
    from : ℕ
    from = base h s.line s.stream

    lane : lane_in port s.stream s.sub ≡ s
    lane = λ i. record { line = receiver.0 i; stream = s.stream; direction = receiver.1 i; sub = s.sub }

    on : key_in (port_keys h port s) live.0 ≡ On j
    on = is_drawn (key_in (port_keys h port s) live.0) j live.1

    above : AllByRecursion (λ (k : ℕ). k ≤ j) (draws_got h s)
    above = rw lane at (facts.above_got h law port s.stream s.sub live.0 j (rw lane on))
