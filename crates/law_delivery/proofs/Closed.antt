-- On a closed stream, nothing of a newer key is accepted before all of the older ones. By induction on the history; the
-- hard case is the first unit that is accepted under its draw, whose tag covers the total of units. There the sender's
-- total of all smaller draws from Base on is the receiver's, and since under each draw no more units were got than were
-- sealed, each count is equal. No unit of a smaller draw is open, so all of its packets were got. That no tag was
-- forged is supposed of draws from Base on alone: below a Base that has risen since, nothing is said of what was got.
use Rattle.law_sealing.proofs.Terms.{◌≡◌, ℕ, suc, ◌<◌, ◌≤◌, ◌==◌, ◌&&◌, Bool, true, List, [], ◌∷◌, ◌++◌, length, take}
use Rattle.law_sealing.proofs.Terms.{slice_get, Some, refl, ap, sym, ◌∙◌, subst, arith, length-append, inl, inr, ◌⊎◌}
use Rattle.law_sealing.proofs.Terms.{if◌then◌else◌, AllByRecursion, and_parts, both_ways, cases_Bool, eqb-true}
use Rattle.law_sealing.proofs.Terms.{nat_tests, append-nil, take_all, PortName, Event, Verdict, Accepted, UnitName}
use Rattle.law_sealing.proofs.Terms.{Effect, Packet, Plan, SubStream, is_same, is_closed, units, open_unit}
use Rattle.law_sealing.proofs.Terms.{is_received_under, is_sealed_under, sealed_packets, sent_packets, received_in}
use Rattle.law_sealing.proofs.Terms.{arrived_packet, packets_in_hold, accepted_packets, units_got, draws_got, total_in}
use Rattle.law_sealing.proofs.Terms.{ahead_of_unit, ahead_sent, ahead_due, units_since, History, base, CauseLaw}
use Rattle.law_sealing.proofs.Terms.{DrawFacts, StreamsFit, TotalsFit, same_stream}
use Rattle.law_sealing.proofs.Terms.{eqb-refl, packets_of_units, joined_units, unit_ending, AcceptedBy, WasSealed}
use Rattle.law_sealing.proofs.Terms.{accepted_by, received_there, numbered}
use Rattle.std.specs.Int.{w64, to_be_bytes, from_be_bytes}
use Rattle.std.proofs.lemmas.Nat.{from_be_bytes-to_be_bytes_8}
use Rattle.law_delivery.specs.NoForgeryUnder.{NotForgedUnder, NoForgeryUnder, NoForgeryFrom}
use Rattle.law_delivery.specs.LocalLaws.{LocalClosedLaw}
use Rattle.law_delivery.proofs.Orders.{NoneAbove, below_next, on_there, none_above, from_base}
use Rattle.law_delivery.proofs.Prefixes.{all_first, got_begins}
use Rattle.law_sealing.proofs.Totals.{total-le, first_and_rest}
use Rattle.law_sealing.proofs.Sums.{total-eq, total_within, since_total}
use Rattle.law_sealing.proofs.Fronts.{IsSealedIn, sealed_later, sent_kept, base_kept, first_sealed}
use Rattle.law_sealing.proofs.FirstFronts.{front_is, last_none, sum_sent, units_sent}

-- ---- draws that were got were sealed

all_both : (P Q R : ℕ → Type 0) (js : List ℕ) → ((j : ℕ) → P j → Q j → R j) → AllByRecursion P js → AllByRecursion Q js
    → AllByRecursion R js
all_both P Q R [] each one two = tt
all_both P Q R (j ∷ js) each one two = (each j one.0 two.0, all_both P Q R js each one.1 two.1)

pub all_map : (P Q : ℕ → Type 0) (js : List ℕ) → ((j : ℕ) → P j → Q j) → AllByRecursion P js → AllByRecursion Q js
all_map P Q js each all = all_both P P Q js (λ j one two. each j one) all all

got_drawn : (P : ℕ → Type 0) (h : History) (s : SubStream) (j : ℕ) → AllByRecursion P (draws_got h s)
    → (units_got h s j ≡ 0) ⊎ P j
unfolding units_got draws_got
got_drawn P [] s j all = inl refl
got_drawn P ((e, Accepted port unit effects) ∷ h) s j all =
    let parts = first_and_rest P (is_same (received_in port unit) s) unit.draw (draws_got h s) all in
    elim (cases_Bool (is_received_under s j port unit)) [
      | inl is ↦
          let tests = and_parts (is_same (received_in port unit) s) (unit.draw == j) is in
          inr (subst P (eqb-true unit.draw j tests.1) (parts.0 tests.0))
      | inr other ↦ rw other (got_drawn P h s j parts.1)
    ]
got_drawn P (_ ∷ h) s j all = got_drawn P h s j all

got_some : (plan : Plan) (h : History) (s : SubStream)
    → AllByRecursion (λ (k : ℕ). 1 ≤ length (accepted_packets plan h s k)) (draws_got h s)
unfolding accepted_packets draws_got
got_some plan [] s = tt
got_some plan ((e, Accepted port unit effects) ∷ h) s =
    let more = λ (k : ℕ). if t && (unit.draw == k) then accepted_packets plan h s k
    ++ u k else accepted_packets plan h s k in
    let later = all_map (λ (k : ℕ). 1 ≤ length (accepted_packets plan h s k)) (λ (k : ℕ). 1 ≤ length (more k))
    (draws_got h s)
    (λ k some. grind (arith, some, length-append (accepted_packets plan h s k) (u k))) (got_some plan h s) in
    let last = length-append (packets_in_hold plan h s unit.draw unit.unit) (arrived_packet plan h e ∷ []) in
    let some : 1 ≤ length (accepted_packets plan h s unit.draw ++ u unit.draw) = omega
    (arith, length-append (accepted_packets plan h s unit.draw) (u unit.draw), last) in
    elim (cases_Bool t) [
      | inl here ↦ rw here (rw (eqb-refl unit.draw) some, rw here at later)
      | inr other ↦ rw other (rw other at later)
    ]
  where
    t : Bool
    t = is_same (received_in port unit) s

    u : ℕ → List Packet
    u k = packets_in_hold plan h s k unit.unit ++ arrived_packet plan h e ∷ []
got_some plan (_ ∷ h) s = got_some plan h s

-- the draw was sealed, if no tag was forged of it
abbrev IsSealedIf : Plan → History → SubStream → ℕ → Type 0
IsSealedIf plan h s k = NoForgeryUnder plan h s k → IsSealedIn plan h s k

sealed_draws : (plan : Plan) → StreamsFit plan → DrawFacts plan → (h : History) → CauseLaw plan h
    → (s : SubStream) → AllByRecursion (IsSealedIf plan h s) (draws_got h s)
sealed_draws plan fits facts h cause s =
    all_map (λ (k : ℕ). 1 ≤ length (accepted_packets plan h s k)) (IsSealedIf plan h s) (draws_got h s)
    (λ k some forged.
    let begins = got_begins plan fits facts h cause s k forged in
    let all = ap length (sym begins.1) in
    (first_sealed plan h s k (omega (arith, some, all, length-append (accepted_packets plan h s k) begins.0))).0)
    (got_some plan h s)

-- ---- the pair at which a unit is accepted

front_total : (plan : Plan) (s : SubStream) (a b : ℕ) → is_closed plan s.line s.stream ≡ true → a < 18446744073709551616
    → b < 18446744073709551616 → ahead_of_unit plan s 1 a ≡ ahead_of_unit plan s 1 b → a ≡ b
unfolding ahead_of_unit
front_total plan s a b closed a_fits b_fits same =
    let bytes : to_be_bytes w64 a ≡ to_be_bytes w64 b = rw closed at same in
    sym (from_be_bytes-to_be_bytes_8 a a_fits) ∙ (ap (from_be_bytes w64) bytes ∙ from_be_bytes-to_be_bytes_8 b b_fits)

-- all was got of the smaller draws from Base on
abbrev pub Older : Plan → History → SubStream → ℕ → Type 0
Older plan h s j = (i : ℕ) → base h s.line s.stream ≤ i → i < j → accepted_packets plan h s i ≡ sent_packets plan h s i

-- if no tag of it was forged under a draw from Base on
abbrev pub OlderIf : Plan → History → SubStream → ℕ → Type 0
OlderIf plan h s j = NoForgeryFrom plan h s (base h s.line s.stream) → Older plan h s j

all_units_got : (plan : Plan) → StreamsFit plan → DrawFacts plan → (h : History) → CauseLaw plan h
    → (s : SubStream) (i : ℕ) → NoForgeryUnder plan h s i → units_got h s i ≡ length (units (sent_packets plan h s i))
    → open_unit (sent_packets plan h s i) ≡ [] → accepted_packets plan h s i ≡ sent_packets plan h s i
all_units_got plan fits facts h cause s i forged count none =
    let are = all_first plan fits facts h cause s i forged in
    let us = units (sent_packets plan h s i) in
    let whole : take (units_got h s i) us ≡ us = take_all (units_got h s i) us (omega (arith, count)) in
    are.first ∙ (ap packets_of_units whole ∙
    (sym (append-nil (packets_of_units us)) ∙
    (ap (λ (ps : List Packet). packets_of_units us ++ ps) (sym none) ∙ joined_units (sent_packets plan h s i))))

some_sent : (ps : List Packet) (k : ℕ) (u : List Packet) → slice_get (units ps) k ≡ Some u → 1 ≤ length ps
unfolding units
some_sent [] k u is = absurd cc
some_sent (p ∷ ps) k u is = omega arith

older_later : (plan : Plan) → DrawFacts plan → (h : History) (e : Event) (w : Verdict) → CauseLaw plan ((e, w) ∷ h)
    → (s : SubStream) (k : ℕ) → IsSealedIf plan h s k
    → ((i : ℕ) → i < k → accepted_packets plan ((e, w) ∷ h) s i ≡ accepted_packets plan h s i)
    → OlderIf plan h s k → OlderIf plan ((e, w) ∷ h) s k
older_later plan facts h e w law s k sealed stays older forged i up less =
    let x = sealed (forged k (omega (arith, up, less))).1 in
    let same = base_kept plan facts h e w law s k (sealed_later plan h e w s k x) (omega (arith, up, less)) in
    let unforged = λ (j : ℕ) (least : base h s.line s.stream ≤ j). (forged j (omega (arith, least, same))).1 in
    stays i less ∙ (older unforged i (omega (arith, up, same)) less ∙ sym (sent_kept plan facts h e w law s i k x less))

-- only its own sub-stream gets packets at an accepted unit, under its own draw
pub got_kept : (plan : Plan) (h : History) (e : Event) (port : PortName) (unit : UnitName) (effects : List Effect)
    (s : SubStream) (k : ℕ) → (is_same (received_in port unit) s ≡ true → k < unit.draw)
    → accepted_packets plan ((e, Accepted port unit effects) ∷ h) s k ≡ accepted_packets plan h s k
unfolding accepted_packets
got_kept plan h e port unit effects s k less = grind (arith, nat_tests, less)

-- no total passes 8 bytes
abbrev Fit : Plan → History → Type 0
Fit plan h = (s : SubStream) (from : ℕ) → total_in (sealed_packets plan h) s from < 18446744073709551616

module _
    (plan : Plan) (fits : StreamsFit plan) (facts : DrawFacts plan) (h : History) (e : Event) (port : PortName)
    (unit : UnitName) (effects : List Effect)
    (cause : CauseLaw plan ((e, Accepted port unit effects) ∷ h)) (fit : Fit plan h) where
  abbrev g : History
  g = (e, Accepted port unit effects) ∷ h

  abbrev r : SubStream
  r = received_in port unit

  abbrev by : AcceptedBy plan h e port unit effects
  by = accepted_by plan h e port unit effects cause.0

  was_sealed : NotForgedUnder plan h e r unit.draw → WasSealed plan h port (unit_ending by.packet unit)
  was_sealed forged = forged (record { port = port; bytes = by.came.bytes }) (unit_ending by.packet unit)
      by.came.arrival by.before refl refl by.verified

  -- the draw of the unit was sealed
  accepted_sealed : NotForgedUnder plan h e r unit.draw → IsSealedIn plan h r unit.draw
  accepted_sealed forged =
      let was = was_sealed forged in
      (first_sealed plan h r unit.draw
      (some_sent (sent_packets plan h r unit.draw) was.place was.unit was.finished)).0

  -- at the first unit of its draw
  first_of_draw : is_closed plan port.line unit.stream ≡ true → NoForgeryFrom plan g r (base h r.line r.stream)
      → units_got h r unit.draw ≡ 0 → Older plan h r unit.draw
  first_of_draw closed forged zero_got i up less =
      let j = unit.draw in
      let from = base h r.line r.stream in
      let forged_here = (forged j (from_base plan facts h e port unit effects cause)).0 in
      let was = was_sealed forged_here in
      let number : unit.unit ≡ 1 = omega (arith, numbered plan h port by.packet unit by.passed, zero_got) in
      let x = accepted_sealed forged_here in
      let sealed_front = front_is plan fits facts h cause.1 r j x (from_base plan facts h e port unit effects cause) in
      let fronts : ahead_of_unit plan r 1 (sum_sent plan h r from j) ≡ ahead_of_unit plan r 1 (units_since h r from) =
      sym sealed_front ∙ (ap (ahead_sent plan h r j) (sym number) ∙ (was.same_ahead ∙ ap (ahead_due plan h r) number))
      in
      let draws = below_next j (draws_got h r) (none_above plan facts h e port unit effects cause) in
      let received = since_total h r from (suc j) draws ∙ last_none from j (λ k. units_got h r k) zero_got in
      let within = (λ (k : ℕ) (up : from ≤ k) (less : k < j).
      (all_first plan fits facts h cause.1 r k (forged k up).1).within) in
      let most = total-le from j (λ k. units_got h r k) (units_sent plan h r) within in
      let sealed_fits : sum_sent plan h r from j < 18446744073709551616 = omega
      (arith, total_within (sealed_packets plan h) r from j, fit r from) in
      let sums = front_total plan r (sum_sent plan h r from j) (units_since h r from) closed sealed_fits
      (omega (arith, received, most, sealed_fits)) fronts in
      let count = total-eq from j (λ k. units_got h r k) (units_sent plan h r) within (sym received ∙ sym sums) i up
      less in
      let p = by.packet in
      let there = received_there plan h port p unit by.passed in
      let under = subst (λ (t : SubStream). is_sealed_under t j x.sealed ≡ true) there x.under in
      let up_there = subst (λ (t : SubStream). base h t.line t.stream ≤ i) there up in
      let on = on_there plan h e port unit effects by in
      let none : open_unit (sent_packets plan h r i) ≡ [] =
      rw there (facts.ended h cause.1 port p.prefix.stream p.prefix.sub p.prefix.k j i x.place x.sealed on x.stands
      under up_there less) in
      all_units_got plan fits facts h cause.1 r i (forged i up).1 count none

  pub older_first : is_closed plan port.line unit.stream ≡ true
      → AllByRecursion (OlderIf plan h (received_in port unit)) (draws_got h (received_in port unit))
      → NoForgeryFrom plan ((e, Accepted port unit effects) ∷ h) (received_in port unit)
      (base h port.line unit.stream) → Older plan h (received_in port unit) unit.draw
  older_first closed before forged = elim (got_drawn (OlderIf plan h r) h r unit.draw before)
      [ inl none ↦ first_of_draw closed forged none | inr older ↦ older (λ j least. (forged j least).1) ]

  -- after the unit it is so of its draw
  older_new : is_closed plan port.line unit.stream ≡ true
      → AllByRecursion (OlderIf plan h (received_in port unit)) (draws_got h (received_in port unit))
      → OlderIf plan ((e, Accepted port unit effects) ∷ h) (received_in port unit) unit.draw
  older_new closed before forged i up less =
      let x = accepted_sealed (forged unit.draw (omega (arith, up, less))).0 in
      let same = base_kept plan facts h e (Accepted port unit effects) cause r unit.draw
      (sealed_later plan h e (Accepted port unit effects) r unit.draw x) (omega (arith, up, less)) in
      let first = older_first closed before (λ j least. forged j (omega (arith, least, same))) in
      older_later plan facts h e (Accepted port unit effects) cause r unit.draw (λ unforged. x)
      (λ k small. got_kept plan h e port unit effects r k (λ is. small)) (λ unforged. first) forged i up less

  -- ---- of every history

  accepted_older : (s : SubStream) → is_closed plan s.line s.stream ≡ true
      → AllByRecursion (OlderIf plan h s) (draws_got h s) → AllByRecursion
      (OlderIf plan ((e, Accepted port unit effects) ∷ h) s) (draws_got ((e, Accepted port unit effects) ∷ h) s)
  unfolding draws_got
  accepted_older s closed before = elim (cases_Bool (is_same r s)) [
    | inl here ↦
        let same = same_stream r s here in
        let closed_here = ap (λ (t : SubStream). is_closed plan t.line t.stream) same ∙ closed in
        let new = older_new closed_here
        (subst (λ (t : SubStream). AllByRecursion (OlderIf plan h t) (draws_got h t)) (sym same) before) in
        rw here (subst (λ (t : SubStream). OlderIf plan g t unit.draw) same new, each)
    | inr other ↦ rw other each
  ]
    where
      Below : ℕ → Type 0
      Below k = is_same (received_in port unit) s ≡ true → k ≤ unit.draw

      Stays : ℕ → Type 0
      Stays k = OlderIf plan h s k → OlderIf plan g s k

      later : (k : ℕ) → (is_same (received_in port unit) s ≡ true → k ≤ unit.draw) → IsSealedIf plan h s k
          → OlderIf plan h s k → OlderIf plan ((e, Accepted port unit effects) ∷ h) s k
      later k most x older =
          let kept = λ (i : ℕ) (less : i < k). got_kept plan h e port unit effects s i
          (λ is. omega (arith, less, most is)) in
          older_later plan facts h e (Accepted port unit effects) cause s k x kept older

      below : AllByRecursion Below (draws_got h s)
      below = elim (cases_Bool (is_same r s)) [
        | inl here ↦
            let there = none_above plan facts h e port unit effects cause in
            let above = subst (λ (t : SubStream). NoneAbove unit.draw (draws_got h t)) (same_stream r s here) there in
            all_map (λ (k : ℕ). k ≤ unit.draw) Below (draws_got h s) (λ k le is. le) above
        | inr other ↦ all_map (OlderIf plan h s) Below (draws_got h s) (λ k older is. absurd (both_ways _ other is))
            before
      ]

      each : AllByRecursion (OlderIf plan g s) (draws_got h s)
      each =
          let stays = all_both Below (IsSealedIf plan h s) Stays (draws_got h s) later below
          (sealed_draws plan fits facts h cause.1 s) in
          all_both Stays (OlderIf plan h s) (OlderIf plan g s) (draws_got h s) (λ k more older. more older) stays before

pub all_older : (plan : Plan) → StreamsFit plan → DrawFacts plan → (h : History) → CauseLaw plan h
    → TotalsFit plan h → (s : SubStream) → is_closed plan s.line s.stream ≡ true → AllByRecursion (OlderIf plan h s)
    (draws_got h s)
unfolding draws_got accepted_packets
all_older plan fits facts [] cause fit s closed = tt
all_older plan fits facts ((e, Accepted port unit effects) ∷ h) cause fit s closed =
    accepted_older plan fits facts h e port unit effects cause fit.0 s closed
    (all_older plan fits facts h cause.1 fit.1 s closed)
all_older plan fits facts ((e, w) ∷ h) cause fit s closed =
    all_both (IsSealedIf plan h s) (OlderIf plan h s) (OlderIf plan ((e, w) ∷ h) s) (draws_got h s)
    (λ k x older. older_later plan facts h e w cause s k x (λ i less. refl) older)
    (sealed_draws plan fits facts h cause.1 s) (all_older plan fits facts h cause.1 fit.1 s closed)

pub closed_law : (plan : Plan) → StreamsFit plan → DrawFacts plan → (h : History) → CauseLaw plan h
    → TotalsFit plan h → LocalClosedLaw plan h
closed_law plan fits facts [] cause fit = tt
closed_law plan fits facts ((e, Accepted port unit effects) ∷ h) cause fit = (
  λ forged closed. older_first plan fits facts h e port unit effects cause fit.0 closed
      (all_older plan fits facts h cause.1 fit.1 (received_in port unit) closed) forged,
  closed_law plan fits facts h cause.1 fit.1,
)
closed_law plan fits facts (_ ∷ h) cause fit = (λ forged. tt, closed_law plan fits facts h cause.1 fit.1)
