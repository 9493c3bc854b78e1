-- How many units a key seals, and how many packets a unit has: packet by packet of what was sealed in a sub-stream
-- under a draw, since each has its unit's number and room in it (law_sealing); and pair by pair of what is held and
-- accepted.
use Rattle.law_sealing.proofs.Terms.{◌≡◌, ◌≢◌, ℕ, zero, suc, ◌+◌, ◌<◌, ◌≤◌, ◌==◌, ◌&&◌, Bool, true, false, List, []}
use Rattle.law_sealing.proofs.Terms.{◌∷◌, ◌++◌, length, take, refl, ap, sym, ◌∙◌, arith, inl, inr}
use Rattle.law_sealing.proofs.Terms.{length-append, nat_tests, cases_Bool, and_parts, eqb-true, take_all}
use Rattle.law_sealing.proofs.Terms.{slice_get_cases, AllByRecursion, Plan, SubStream, is_same, aggregation_of, History}
use Rattle.law_sealing.proofs.Terms.{Event, PortName, UnitName, Packet, Held, Accepted, CauseLaw}
use Rattle.law_sealing.proofs.Terms.{sent_packets, received_in, arrived_packet, is_received_under}
use Rattle.law_sealing.proofs.Terms.{units-end, units-more, open_unit-end, open_unit-more, same_stream, accepted_by}
use Rattle.law_sealing.proofs.Terms.{packet_that_came, held_by, received_there, numbered, is_overfull}
unfoldable use Rattle.law_sealing.proofs.Terms.{units, open_unit, packets_in_hold, accepted_packets, units_got}
use Rattle.law_sealing.proofs.Bounds.{aggregation_one}
use Rattle.law_sealing.proofs.OfPlans.{streams_fit}
use Rattle.law_sealing.proofs.Places.{sent_place}
use Rattle.law_sealing.proofs.Sums.{next_taken}
use Rattle.law_sealing.proofs.Worn.{unworn}
use Rattle.law_delivery.proofs.Received.{held_front}
use Rattle.law_delivery.proofs.GotUnits.{got_units, one_unit}
use Rattle.law_key_facts.proofs.Draws.{draws as draws_hold}
use Rattle.ide_types.specs.Fits.{FitsPlan}
use Rattle.law_key_use.specs.Limits.{IsWithinMode, KeyLimits}
use Rattle.law_key_use.proofs.OneKey.{one_key}

-- ---- packets, one by one

all-append : {A : Type 0} (P : A → Type 0) (xs : List A) (x : A) → AllByRecursion P xs → P x
    → AllByRecursion P (xs ++ x ∷ [])
all-append P [] x all here = (here, tt)
all-append P (y ∷ xs) x all here = (all.0, all-append P xs x all.1 here)

-- packets with at most so many finished units, of at most so many packets each
record Within (limit size : ℕ) (ps : List Packet) : Type 0 where
  finished : length (units ps) ≤ limit
  opened : open_unit ps ≢ [] → length (units ps) < limit
  sizes : AllByRecursion (λ (u : List Packet). length u ≤ size) (units ps)
  room : length (open_unit ps) < size

none_within : (limit size : ℕ) → 1 ≤ size → Within limit size []
unfolding units open_unit
none_within limit size some = record {
  finished = omega arith;
  opened = λ some_left. absurd (some_left refl);
  sizes = tt;
  room = some;
}

one_within : (limit size : ℕ) (ps : List Packet) (p : Packet) → 1 ≤ size → Within limit size ps
    → length (units ps) < limit → (p.prefix.m ≡ false → length (open_unit ps) + 1 < size)
    → Within limit size (ps ++ p ∷ [])
one_within limit size ps p some within less room = by_end p.prefix.m refl
  where
    last : List Packet
    last = open_unit ps ++ p ∷ []

    by_end : (b : Bool) → p.prefix.m ≡ b → Within limit size (ps ++ p ∷ [])
    by_end true m = record {
      finished = rw (units-end ps p m) (omega (arith, less, length-append (units ps) (last ∷ [])));
      opened = λ some_left. absurd (some_left (open_unit-end ps p m));
      sizes = rw (units-end ps p m) (all-append _ (units ps) last within.sizes
          (omega (arith, within.room, length-append (open_unit ps) (p ∷ []))));
      room = rw (open_unit-end ps p m) some;
    }
    by_end false m = record {
      finished = rw (units-more ps p m) within.finished;
      opened = λ some_left. rw (units-more ps p m) less;
      sizes = rw (units-more ps p m) within.sizes;
      room = rw (open_unit-more ps p m) (omega (arith, room m, length-append (open_unit ps) (p ∷ [])));
    }

-- ---- what was sealed

module _ (plan : Plan) (fits : FitsPlan plan) (h : History) (law : CauseLaw plan h) (s : SubStream) where
  abbrev size : ℕ
  size = aggregation_of plan s.line s.stream

  some : 1 ≤ size
  some = aggregation_one plan (streams_fit plan fits) s.line s.stream

  taken_within : (j n : ℕ) → Within plan.units_per_key size (take n (sent_packets plan h s j))
  taken_within j zero = none_within plan.units_per_key size some
  taken_within j (suc n) = elim (slice_get_cases (sent_packets plan h s j) n).1 [
    | inl at ↦
        let ps = sent_packets plan h s j in
        let place = sent_place plan (streams_fit plan fits) (draws_hold plan) h law s j n at.0 at.2 in
        let most = (unworn plan (draws_hold plan) h law).numbers place.place (place.description, at.0) place.stands in
        let unit = place.unit in
        rw (next_taken ps n at.0 at.2)
        (one_within plan.units_per_key size (take n ps) at.0 some (taken_within j n) (omega (arith, most, unit))
        place.room)
    | inr past ↦
        let ps = sent_packets plan h s j in
        let le = past.0 in
        let same : take (suc n) ps ≡ take n ps =
        take_all (suc n) ps (omega (arith, le)) ∙ sym (take_all n ps le) in
        rw same (taken_within j n)
  ]

  sent_within : (j : ℕ) → Within plan.units_per_key size (sent_packets plan h s j)
  sent_within j = let ps = sent_packets plan h s j in rw (take_all (length ps) ps (omega arith)) at
      (taken_within j (length ps))

-- ---- what is held

-- a packet that is held leaves room for another
held_room : (plan : Plan) (h : History) (e : Event) (port : PortName) (unit : UnitName) (s : SubStream) (j n : ℕ)
    → CauseLaw plan ((e, Held port unit) ∷ h) → (is_received_under s j port unit && (unit.unit == n)) ≡ true
    → length (packets_in_hold plan h s j n) + 1 < aggregation_of plan s.line s.stream
held_room plan h e port unit s j n law here =
    let by = held_by plan h e port unit law.0 in
    let tests = and_parts (is_received_under s j port unit) (unit.unit == n) here in
    let parts = and_parts (is_same (received_in port unit) s) (unit.draw == j) tests.0 in
    let there : received_in port unit ≡ s = same_stream (received_in port unit) s parts.0 in
    let draw : unit.draw ≡ j = eqb-true unit.draw j parts.1 in
    let number : units_got h (received_in port unit) unit.draw + 1 ≡ n =
    sym (numbered plan h port by.packet unit by.passed) ∙ eqb-true unit.unit n tests.1 in
    let room : is_overfull plan h (received_in port unit) unit.draw by.packet.prefix.m ≡ false =
    ap (λ (t : SubStream). is_overfull plan h t unit.draw by.packet.prefix.m)
    (received_there plan h port by.packet unit by.passed) ∙ by.passed.room in
    let m = by.goes_on in
    let same : length (packets_in_hold plan h (received_in port unit) unit.draw
    (units_got h (received_in port unit) unit.draw + 1)) ≡ length (packets_in_hold plan h s j n) =
    λ i. length (packets_in_hold plan h (there i) (draw i) (number i)) in
    let mode = ap (λ (t : SubStream). aggregation_of plan t.line t.stream) there in
    grind (arith, nat_tests)

held_within : (plan : Plan) → FitsPlan plan → (h : History) → CauseLaw plan h → (s : SubStream) (j n : ℕ)
    → length (packets_in_hold plan h s j n) < aggregation_of plan s.line s.stream
unfolding packets_in_hold
held_within plan fits [] law s j n = aggregation_one plan (streams_fit plan fits) s.line s.stream
held_within plan fits ((e, Held port unit) ∷ h) law s j n =
    elim (cases_Bool (is_received_under s j port unit && (unit.unit == n))) [
      | inl here ↦
          let room = held_room plan h e port unit s j n law here in
          rw here (omega (arith, room, length-append (packets_in_hold plan h s j n) (arrived_packet plan h e ∷ [])))
      | inr other ↦ rw other (held_within plan fits h law.1 s j n)
    ]
held_within plan fits ((e, w) ∷ h) law s j n = held_within plan fits h law.1 s j n

-- ---- what is accepted

accepted_within : (plan : Plan) → FitsPlan plan → (h : History) → CauseLaw plan h → (s : SubStream) (j : ℕ)
    → AllByRecursion (IsWithinMode plan s) (units (accepted_packets plan h s j))
unfolding accepted_packets units
accepted_within plan fits [] law s j = tt
accepted_within plan fits ((e, Accepted port unit effects) ∷ h) law s j =
    let by = accepted_by plan h e port unit effects law.0 in
    let before = accepted_within plan fits h law.1 s j in
    let held = packets_in_hold plan h s j unit.unit in
    let p = arrived_packet plan h e in
    elim (cases_Bool (is_received_under s j port unit)) [
      | inl here ↦
          let m = ap (λ (q : Packet). q.prefix.m) (packet_that_came plan h e port by.packet by.came) ∙ by.ends in
          let room = held_within plan fits h law.1 s j unit.unit in
          rw (
            here,
            one_unit (accepted_packets plan h s j) held p (got_units plan h law.1 s j).none
                (held_front plan h law.1 s j unit.unit) m,
          )
          (all-append (IsWithinMode plan s) (units (accepted_packets plan h s j)) (held ++ p ∷ []) before
          (omega (arith, room, length-append held (p ∷ []))))
      | inr other ↦ rw other before
    ]
accepted_within plan fits ((e, w) ∷ h) law s j = accepted_within plan fits h law.1 s j

pub key_limits : (plan : Plan) → FitsPlan plan → (h : History) → CauseLaw plan h → KeyLimits plan h
key_limits plan fits h law = record {
  one_key = one_key plan fits h law;
  finished = λ s j. (sent_within plan fits h law s j).finished;
  opened = λ s j. (sent_within plan fits h law s j).opened;
  numbered = (unworn plan (draws_hold plan) h law).numbers;
  sealed = λ s j. (sent_within plan fits h law s j).sizes;
  open_has_room = λ s j. (sent_within plan fits h law s j).room;
  accepted = accepted_within plan fits h law;
  held_has_room = λ s j. held_within plan fits h law s j (units_got h s j + 1);
}
