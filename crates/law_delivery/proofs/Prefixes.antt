-- What was got is a prefix of what was sealed.
use Rattle.law_sealing.proofs.Terms.{◌≡◌, ℕ, ◌+◌, ◌≤◌, Bool, true, false, List, [], ◌∷◌, ◌++◌, length, Some, slice_get}
use Rattle.law_sealing.proofs.Terms.{take, drop, map, refl, ap, sym, ◌∙◌, arith, append_assoc, length-append, add-one}
use Rattle.law_sealing.proofs.Terms.{inl, inr, if◌then◌else◌, ◌==◌, AllByRecursion, and_parts, cases_Bool, eqb-true}
use Rattle.law_sealing.proofs.Terms.{take-append-le, nil_from_length, Plan, SubStream, is_same, units, units_finished}
use Rattle.law_sealing.proofs.Terms.{open_unit, History, SealedList, sealed_packets, sent_packets, sub_stream_packets}
use Rattle.law_sealing.proofs.Terms.{arrived_packet, received_in, is_received_under, packets_in_hold, pending_packets}
use Rattle.law_sealing.proofs.Terms.{accepted_packets, units_got, due, unit_packets_ended, CauseLaw}
use Rattle.law_sealing.proofs.Terms.{WasSealed, IsPrefixOf, last_tag, same_stream, packets_of_units}
use Rattle.law_sealing.proofs.Terms.{units-append, joined_units, EndsInM, EndsInM-snoc, All-snoc, units_all, units_end}
use Rattle.law_sealing.proofs.Terms.{unit_at, take_next, below, joined_take, joined-snoc, Came, accepted_by}
use Rattle.law_sealing.proofs.Terms.{unit_ending, numbered, unit_that_ends, DrawFacts, StreamsFit, PortName, Event}
use Rattle.law_sealing.proofs.Terms.{Verdict, Accepted, UnitName, Effect, Packet, FitsPacket, packet_without_tag}
use Rattle.std.proofs.Common.{subst₂}
use Rattle.law_sealing.proofs.Below.{same_packets}
use Rattle.law_delivery.specs.NoForgeryUnder.{NotForgedUnder, NoForgeryUnder}
use Rattle.law_delivery.proofs.Received.{came_fits, held_front, held_fits}
use Rattle.law_sealing.proofs.Places.{sent_fits}
use Rattle.law_sealing.proofs.Sums.{sub_stream_packets-append}
use Rattle.law_sealing.proofs.Fronts.{packets_grow}

-- ---- what was sealed only grows at its end

pub sent_grows : (plan : Plan) (h : History) (e : Event) (w : Verdict) (s : SubStream) (j : ℕ)
    → IsPrefixOf (sent_packets plan h s j) (sent_packets plan ((e, w) ∷ h) s j)
sent_grows plan h e w s j =
    let grown = packets_grow plan h e w in (
      sub_stream_packets grown.0 s j,
      sym (sub_stream_packets-append (sealed_packets plan h) grown.0 s j) ∙ ap
          (λ (ys : SealedList). sub_stream_packets ys s j) grown.1,
    )

-- ---- the units got are the first of those sealed

pub record AreFirst (ps : List Packet) (us : List (List Packet)) (n : ℕ) : Type 0 where
  pub within : n ≤ length us
  pub first : ps ≡ packets_of_units (take n us)

-- finished units stay
AreFirst-grown : (ps qs rs : List Packet) (n : ℕ) → AreFirst ps (units qs) n → IsPrefixOf qs rs
    → AreFirst ps (units rs) n
AreFirst-grown ps qs rs n are begins =
    let us = units qs in
    let more = units_finished (open_unit qs) begins.0 in
    rw (← begins.1, units-append qs begins.0) (record {
      within = omega (arith, are.within, length-append us more);
      first = are.first ∙ ap packets_of_units (sym (take-append-le n us more are.within));
    })

-- the next unit joins them
AreFirst-next : (ps : List Packet) (us : List (List Packet)) (n : ℕ) (x : List Packet) → AreFirst ps us n
    → slice_get us n ≡ Some x → AreFirst (ps ++ x) us (n + 1)
AreFirst-next ps us n x are stands = record {
  within = rw add-one (below us n x stands);
  first = rw (add-one, take_next us n x stands, joined-snoc) (ap (λ z. z ++ x) are.first);
}

-- ---- the unit that ends is the next of those sealed

no_tag : (p : Packet) → FitsPacket p → p.prefix.m ≡ false → p.tag ≡ []
no_tag p fits m = nil_from_length p.tag (fits.tag_size ∙ ap (λ (b : Bool). if b then 12 else 0) m)

same_packet : (p q : Packet) → packet_without_tag p ≡ packet_without_tag q → p.tag ≡ q.tag → p ≡ q
same_packet p q same tag =
    let prefix = ap (λ (r : Packet). r.prefix) same in
    let head = ap (λ (r : Packet). r.head) same in
    let body = ap (λ (r : Packet). r.body) same in
    λ i. record { prefix = prefix i; head = head i; body = body i; tag = tag i }

-- packets without M have no tags, so that the last tag is all that the rest leaves open
same_unit : (x y : List Packet) → AllByRecursion FitsPacket x → AllByRecursion FitsPacket y → EndsInM x → EndsInM y
    → map packet_without_tag x ≡ map packet_without_tag y → last_tag x ≡ last_tag y → x ≡ y
same_unit [] [] fx fy mx my same tag = refl
same_unit (p ∷ []) (q ∷ []) fx fy mx my same tag = ap (λ r. r ∷ []) (same_packet p q (cc) tag)
same_unit (p ∷ r ∷ x) (q ∷ s ∷ y) fx fy mx my same tag =
    let first = same_packet p q (cc) (no_tag p fx.0 mx.0 ∙ sym (no_tag q fy.0 my.0)) in
    let rest = same_unit (r ∷ x) (s ∷ y) fx.1 fy.1 mx.1 my.1 (cc) tag in
    cc (first, rest)
same_unit x y fx fy mx my same tag = absurd cc

pub last_tag-snoc : (ps : List Packet) (p : Packet) → last_tag (ps ++ p ∷ []) ≡ p.tag
last_tag-snoc [] p = refl
last_tag-snoc (q ∷ []) p = refl
last_tag-snoc (q ∷ r ∷ ps) p = last_tag-snoc (r ∷ ps) p

-- it was sealed
as_sealed : (plan : Plan) → StreamsFit plan → DrawFacts plan → (h : History) (e : Event) (port : PortName)
    (unit : UnitName) (p : Packet) → CauseLaw plan h → Came plan h e port p → p.prefix.m ≡ true
    → (was : WasSealed plan h port (unit_ending p unit)) → was.unit
    ≡ unit_packets_ended plan h port (unit_ending p unit)
as_sealed plan fits facts h e port unit p cause came ends was =
    let s = received_in port unit in
    let unfinished = pending_packets plan h s unit.draw in
    let us = units (sent_packets plan h s unit.draw) in
    let sealed_fits = unit_at (AllByRecursion FitsPacket) us was.place was.unit
    (units_all FitsPacket (sent_packets plan h s unit.draw) (sent_fits plan fits facts h cause s unit.draw))
    was.finished in
    let sealed_ends = unit_at EndsInM us was.place was.unit (units_end (sent_packets plan h s unit.draw)) was.finished
    in
    let all_fit = All-snoc FitsPacket unfinished p (held_fits plan h cause s unit.draw (units_got h s unit.draw + 1))
    (came_fits plan h e port p came) in
    let is_unit = EndsInM-snoc unfinished p (held_front plan h cause s unit.draw (units_got h s unit.draw + 1)) ends in
    same_unit was.unit (unfinished ++ p ∷ []) sealed_fits all_fit sealed_ends is_unit
    (same_packets was.unit (unfinished ++ p ∷ []) sealed_fits all_fit was.same_authenticated was.same_encrypted)
    (was.same_tag ∙ sym (last_tag-snoc unfinished p))

-- the units that were got of a sub-stream under a draw
abbrev pub GotFirst : Plan → History → SubStream → ℕ → Type 0
GotFirst plan h s j = AreFirst (accepted_packets plan h s j) (units (sent_packets plan h s j)) (units_got h s j)

one_more : (plan : Plan) → StreamsFit plan → DrawFacts plan → (h : History) (e : Event) (port : PortName)
    (unit : UnitName) (effects : List Effect) → CauseLaw plan h
    → NotForgedUnder plan h e (received_in port unit) unit.draw → Accepted port unit effects ≡ due plan h e
    → let s = received_in port unit in GotFirst plan h s unit.draw
    → AreFirst (accepted_packets plan h s unit.draw ++
    (packets_in_hold plan h s unit.draw unit.unit ++ arrived_packet plan h e ∷ []))
    (units (sent_packets plan h s unit.draw))
    (units_got h s unit.draw + 1)
one_more plan fits facts h e port unit effects cause forged is are =
    let by = accepted_by plan h e port unit effects is in
    let s = received_in port unit in
    let us = units (sent_packets plan h s unit.draw) in
    let x = unit_packets_ended plan h port (unit_ending by.packet unit) in
    let was = forged (record { port = port; bytes = by.came.bytes }) (unit_ending by.packet unit) by.came.arrival
    by.before refl refl by.verified in
    let number : was.place ≡ units_got h s unit.draw = omega
    (arith, was.numbered, numbered plan h port by.packet unit by.passed) in
    let stands : slice_get us (units_got h s unit.draw) ≡ Some x =
    rw (number, as_sealed plan fits facts h e port unit by.packet cause by.came by.ends was) at was.finished in
    rw (unit_that_ends plan h e port unit by.packet by.came by.passed)
    (AreFirst-next (accepted_packets plan h s unit.draw) us (units_got h s unit.draw) x are stands)

pub all_first : (plan : Plan) → StreamsFit plan → DrawFacts plan → (h : History) → CauseLaw plan h
    → (s : SubStream) (j : ℕ) → NoForgeryUnder plan h s j → GotFirst plan h s j
unfolding accepted_packets units_got
all_first plan fits facts [] cause s j forged = record { within = omega arith; first = refl }
all_first plan fits facts ((e, Accepted port unit effects) ∷ h) cause s j forged =
    let before = all_first plan fits facts h cause.1 s j forged.1 in
    AreFirst-grown _ (sent_packets plan h s j) (sent_packets plan ((e, Accepted port unit effects) ∷ h) s j) _
    (elim (cases_Bool (is_received_under s j port unit)) [
      | inl is ↦
          let tests = and_parts (is_same (received_in port unit) s) (unit.draw == j) is in
          let stream = same_stream (received_in port unit) s tests.0 in
          let draw = eqb-true unit.draw j tests.1 in
          let unforged = subst₂ (NotForgedUnder plan h e) (sym stream) (sym draw) forged.0 in
          let here = one_more plan fits facts h e port unit effects cause.1 unforged cause.0
          (subst₂ (GotFirst plan h) (sym stream) (sym draw) before) in
          rw is (rw (stream, draw) at here)
      | inr other ↦ rw other before
    ]) (sent_grows plan h e (Accepted port unit effects) s j)
all_first plan fits facts ((e, w) ∷ h) cause s j forged =
    AreFirst-grown (accepted_packets plan h s j) (sent_packets plan h s j) (sent_packets plan ((e, w) ∷ h) s j)
    (units_got h s j)
    (all_first plan fits facts h cause.1 s j forged.1) (sent_grows plan h e w s j)

pub got_begins : (plan : Plan) → StreamsFit plan → DrawFacts plan → (h : History) → CauseLaw plan h
    → (s : SubStream) (j : ℕ) → NoForgeryUnder plan h s j
    → IsPrefixOf (accepted_packets plan h s j) (sent_packets plan h s j)
got_begins plan fits facts h cause s j forged =
    let n = units_got h s j in
    let us = units (sent_packets plan h s j) in
    let left = open_unit (sent_packets plan h s j) in
    let are = all_first plan fits facts h cause s j forged in (
      packets_of_units (drop n us) ++ left,
      rw (are.first, ← append_assoc, joined_take) (joined_units (sent_packets plan h s j)),
    )
