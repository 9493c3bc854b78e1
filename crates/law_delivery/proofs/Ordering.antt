-- What is accepted comes after what was posted before it. The posted counts of a sub-stream, up to one of its packets,
-- sum to the posted packets sealed before it, by induction on the list. The receiver has tested that its counts sum to
-- no more than the posted packets that it got; if one sealed before were missing, it got too few. The hard case is
-- several draws: that nothing of an overtaken key is missing is from Closed, and on an open stream it is supposed.
use Rattle.law_sealing.proofs.Terms.{◌≡◌, ◌≢◌, ℕ, zero, suc, ◌+◌, ◌<◌, ◌≤◌, Bool, true, List, [], ◌∷◌, ◌++◌, length}
use Rattle.law_sealing.proofs.Terms.{filter, take, drop, sum_by, slice_get, Some, refl, ap, sym, ◌∙◌, subst, arith}
use Rattle.law_sealing.proofs.Terms.{length-append, inl, inr, ◌⊎◌, if◌then◌else◌, AllByRecursion, le-leb, cases_Bool}
use Rattle.law_sealing.proofs.Terms.{cases_lt, cases_eq, nat_tests, take-append-drop, take_all, take-take}
use Rattle.law_sealing.proofs.Terms.{slice_get_cases, filter-append, sum_by-append, sum_by-cons, sub_bits, Plan}
use Rattle.law_sealing.proofs.Terms.{SubStream, is_same, is_closed, History, base, posted_since_last, SealedList}
use Rattle.law_sealing.proofs.Terms.{sealed_packets, sent_packets, sub_stream_packets, sub_stream_of, arrived_packet}
use Rattle.law_sealing.proofs.Terms.{received_in, packets_in_hold, accepted_packets, got_since, draws_got, posted_lane}
use Rattle.law_sealing.proofs.Terms.{meets_counts, unit_packets_ended, CauseLaw, IsPrefixOf, TotalsFit}
use Rattle.law_sealing.proofs.Terms.{DrawFacts, StreamsFit, unit_ending, accepted_by, sealed_same}
use Rattle.law_sealing.proofs.Terms.{sub_stream_packets-snoc, same_stream, is_same-refl, posted-own, posted-more}
use Rattle.law_sealing.proofs.Terms.{PortName, Event, Accepted, SealedPacket, UnitName, Effect, Packet, unit_that_ends}
use Rattle.spec_links.specs.Ordered.{NoneMissing, IsPacketAtPlace, BehindPosted}
use Rattle.law_delivery.specs.NoForgeryUnder.{NoForgeryFrom}
use Rattle.law_delivery.specs.LocalLaws.{LocalOrderLaw}
use Rattle.law_delivery.proofs.Closed.{Older, OlderIf, all_map, older_first, all_older, got_kept}
use Rattle.law_delivery.proofs.Prefixes.{got_begins}
use Rattle.law_delivery.proofs.Orders.{below_next, from_base, none_above}
use Rattle.law_sealing.proofs.Sums.{all_at, at_taken, next_taken, sub_stream_packets-append, in_parts, Rises}
use Rattle.law_sealing.proofs.Sums.{smaller_before}
use Rattle.law_sealing.proofs.Counted.{IsCounted, counted}
use Rattle.law_sealing.proofs.Totals.{total-le, of_since, sealed_total, got_total}

-- ---- lists

-- of two beginnings of one list the shorter begins the other
two_begin : (xs ys zs : List Packet) → IsPrefixOf xs zs → IsPrefixOf ys zs → length xs ≤ length ys → IsPrefixOf xs ys
two_begin [] ys zs one two le = (ys, refl)
two_begin (x ∷ xs) [] zs one two le = absurd (omega arith)
two_begin (x ∷ xs) (y ∷ ys) [] one two le = absurd cc
two_begin (x ∷ xs) (y ∷ ys) (z ∷ zs) one two le =
    let first : x ≡ y = cc (one.1, two.1) in
    let left : xs ++ one.0 ≡ zs = cc (one.1) in
    let right : ys ++ two.0 ≡ zs = cc (two.1) in
    let rest = two_begin xs ys zs (one.0, left) (two.0, right) (omega (arith, le)) in
    (rest.0, cc (first, rest.1))

pub sum_begins : (w : Packet → ℕ) (xs ys : List Packet) → IsPrefixOf xs ys → sum_by w xs ≤ sum_by w ys
sum_begins w xs ys begins = let all = ap (sum_by w) (sym begins.1) in omega (arith, all, sum_by-append w xs begins.0)

length_begins : (xs ys : List Packet) → IsPrefixOf xs ys → length xs ≤ length ys
length_begins xs ys begins = let all = ap length (sym begins.1) in omega (arith, all, length-append xs begins.0)

pub counted_one : (ps : List Packet) → sum_by (λ (p : Packet). 1) ps ≡ length ps
counted_one [] = refl
counted_one (p ∷ ps) = omega (arith, sum_by-cons (λ (p : Packet). 1) p ps, counted_one ps)

-- ---- the posted counts of a sub-stream sum to the posted packets

abbrev pub weight : ℕ → SubStream → SealedList → ℕ
weight from s xs = sum_by (λ (x : SealedPacket × Packet). x.1.prefix.posted) (filter (of_since from s) xs)

abbrev pub number : ℕ → SubStream → SealedList → ℕ
number from s xs = sum_by (λ (x : SealedPacket × Packet). 1) (filter (of_since from s) xs)

sum-snoc : (w : SealedPacket × Packet → ℕ) (p : SealedPacket × Packet → Bool) (xs : SealedList)
    (x : SealedPacket × Packet) → sum_by w (filter p (xs ++ x ∷ [])) ≡ sum_by w (filter p xs) + (if p x then w x else 0)
sum-snoc w p xs x = rw (filter-append, sum_by-append w) (grind (arith, sum_by-cons w x []))

not_both : (d s : SubStream) → sub_bits s.sub ≢ 0 → is_same d s ≡ true → is_same d (posted_lane s) ≡ true → ⊥
not_both d s other one two =
    let here = ap (λ (t : SubStream). t.sub) (sym (same_stream d s one) ∙ same_stream d (posted_lane s) two) in
    other (ap sub_bits here)

-- one more packet
sums_more : (from : ℕ) (s : SubStream) (xs : SealedList) (x : SealedPacket × Packet) → sub_bits s.sub ≢ 0
    → (is_same (sub_stream_of x.0) s ≡ true → from ≤ x.0.draw → x.1.prefix.posted ≡ posted_since_last xs s from)
    → weight from s xs + posted_since_last xs s from ≡ number from (posted_lane s) xs
    → weight from s (xs ++ x ∷ []) + posted_since_last (xs ++ x ∷ []) s from
    ≡ number from (posted_lane s) (xs ++ x ∷ [])
sums_more from s xs x other count before =
    let more = sum-snoc (λ (x : SealedPacket × Packet). x.1.prefix.posted) (of_since from s) xs x in
    let number_more = sum-snoc (λ (x : SealedPacket × Packet). 1) (of_since from (posted_lane s)) xs x in
    grind (
      arith,
      nat_tests,
      more,
      number_more,
      not_both (sub_stream_of x.0) s other,
      posted-own xs x s from,
      posted-more xs x s from,
      count,
      before,
    )

pub sums : (from : ℕ) (s : SubStream) (xs : SealedList) → sub_bits s.sub ≢ 0 → IsCounted from s xs → (i : ℕ)
    → weight from s (take i xs) + posted_since_last (take i xs) s from ≡ number from (posted_lane s) (take i xs)
unfolding posted_since_last
sums from s xs other each zero = refl
sums from s xs other each (suc i) =
    let before = sums from s xs other each i in
    elim (slice_get_cases xs i).1 [
      | inl here ↦ rw (next_taken xs i here.0 here.2)
          (sums_more from s (take i xs) here.0 other (each i here.0 here.2) before)
      | inr none ↦ rw (take_all (suc i) xs (omega arith)) (rw (take_all i xs none.0) at before)
    ]

-- up to a packet of the sub-stream, they sum to the posted packets before it
sums_to : (from : ℕ) (s : SubStream) (xs : SealedList) → sub_bits s.sub ≢ 0 → IsCounted from s xs
    → (i : ℕ) (x : SealedPacket × Packet) → slice_get xs i ≡ Some x → is_same (sub_stream_of x.0) s ≡ true
    → from ≤ x.0.draw → weight from s (take (suc i) xs) ≡ number from (posted_lane s) (take i xs)
sums_to from s xs other each i x is this above =
    let last = sum-snoc (λ (x : SealedPacket × Packet). x.1.prefix.posted) (of_since from s) (take i xs) x in
    rw (next_taken xs i x is)
    (grind (arith, nat_tests, last, this, above, each i x is this above, sums from s xs other each i))

-- ---- what was sealed up to a place

taken_begins : (xs : SealedList) (i : ℕ) (s : SubStream) (k : ℕ)
    → IsPrefixOf (sub_stream_packets (take i xs) s k) (sub_stream_packets xs s k)
taken_begins xs i s k = (
  sub_stream_packets (drop i xs) s k,
  sym (sub_stream_packets-append (take i xs) (drop i xs) s k) ∙ ap
      (λ (ys : SealedList). sub_stream_packets ys s k) (take-append-drop i xs),
)

pub below_until : (xs : SealedList) (s : SubStream) (place d n m : ℕ) → Rises xs → IsPacketAtPlace xs s d m place
    → n ≤ suc place → AllByRecursion
    (λ (x : SealedPacket × Packet). is_same (sub_stream_of x.0) s ≡ true → x.0.draw < suc d) (take n xs)
below_until xs s place d n m rises at le =
    all_at (λ (x : SealedPacket × Packet). is_same (sub_stream_of x.0) s ≡ true → x.0.draw < suc d) (take n xs)
    (λ i y is here.
    let there = at_taken xs n i y is in
    let of = in_parts s d at.sealed at.under in
    let most = rises s i place y at.sealed (omega (arith, there.0, le)) there.1 at.stands here of.0 in
    omega (arith, most, of.1))

-- with its packet there is one more of the sub-stream and draw
pub sized : (xs : SealedList) (s : SubStream) (j m place : ℕ) (at : IsPacketAtPlace xs s j m place)
    → length (sub_stream_packets (take (suc place) xs) s j) ≡ suc m
sized xs s j m place at =
    let more = length-append (sub_stream_packets (take place xs) s j) (at.sealed.1 ∷ []) in
    rw (next_taken xs place at.sealed at.stands, sub_stream_packets-snoc (take place xs) at.sealed s j, at.under)
    (omega (arith, more, at.number))

-- it is below the number of all that were sealed there
sized_below : (xs : SealedList) (s : SubStream) (j m place : ℕ) → IsPacketAtPlace xs s j m place
    → m < length (sub_stream_packets xs s j)
sized_below xs s j m place at = omega
    (arith, sized xs s j m place at, length_begins _ _ (taken_begins xs (suc place) s j))

-- ---- the pair at which a unit is accepted

since_joined : (plan : Plan) (h : History) (e : Event) (port : PortName) (unit : UnitName) (effects : List Effect)
    (from : ℕ) → from ≤ unit.draw → got_since plan ((e, Accepted port unit effects) ∷ h) (received_in port unit) from
    ≡ got_since plan h (received_in port unit) from
    ++ (packets_in_hold plan h (received_in port unit) unit.draw unit.unit ++ arrived_packet plan h e ∷ [])
unfolding got_since
since_joined plan h e port unit effects from le = rw (is_same-refl (received_in port unit), le-leb _ _ le) refl

on_in : (plan : Plan) (h : History) (e : Event) (port : PortName) (unit : UnitName) (effects : List Effect)
    → draws_got ((e, Accepted port unit effects) ∷ h) (received_in port unit) ≡ unit.draw
    ∷ draws_got h (received_in port unit)
unfolding draws_got
on_in plan h e port unit effects = rw (is_same-refl (received_in port unit)) refl

-- if a posted packet that was sealed was not got, no more were got than were sealed before it
posted_counts : (plan : Plan) → StreamsFit plan → DrawFacts plan → (h : History) (s : SubStream) (j n place from : ℕ)
    → CauseLaw plan h → NoForgeryFrom plan h s from → IsPacketAtPlace (sealed_packets plan h) s j n place
    → AllByRecursion (λ (k : ℕ). k < suc j) (draws_got h s) → length (accepted_packets plan h s j) ≤ n
    → length (got_since plan h s from) ≤ number from s (take place (sealed_packets plan h))
posted_counts plan fits facts h s j n place from cause forged at draws missing =
    let below = below_until xs s place j place n (facts.rises h cause) at (omega arith) in
    let each = total-le from (suc j) (λ k. sum_by one (accepted_packets plan h s k))
    (λ k. sum_by one (sub_stream_packets (take place xs) s k))
    at_draw in
    omega (
      arith,
      counted_one (got_since plan h s from),
      got_total one plan h s from (suc j) draws,
      sealed_total one s
          from (suc j) (take place xs) below,
      each,
    )
  where
    xs : SealedList
    xs = sealed_packets plan h

    one : Packet → ℕ
    one p = 1

    at_draw : (k : ℕ) → from ≤ k → k < suc j → sum_by one (accepted_packets plan h s k) ≤ sum_by one
        (sub_stream_packets (take place (sealed_packets plan h)) s k)
    at_draw k up less = elim (cases_eq k j) [
      | inl same ↦ rw same (omega (
        arith,
        counted_one (accepted_packets plan h s j),
        counted_one (sub_stream_packets (take place xs) s j),
        missing,
        at.number,
      ))
      | inr differ ↦
          let all = smaller_before xs s place j k at.sealed (facts.rises h cause) at.stands at.under
          (omega (arith, less, differ)) in
          rw all (sum_begins one _ _ (got_begins plan fits facts h cause s k (forged k up)))
    ]

mono : (w : SealedPacket × Packet → ℕ) (p : SealedPacket × Packet → Bool) (xs : SealedList) (i k : ℕ) → i ≤ k
    → sum_by w (filter p (take i xs)) ≤ sum_by w (filter p (take k xs))
mono w p xs i k le =
    let all = rw (take-append-drop, take-take i k xs le) at (filter-append p (take i (take k xs)) (drop i (take k xs)))
    in
    rw (all, sum_by-append w) (omega arith)

-- one more than those before the place
one_more_number : (from : ℕ) (xs : SealedList) (s : SubStream) (j m place : ℕ) → IsPacketAtPlace xs s j m place
    → from ≤ j → number from s (take (suc place) xs) ≡ number from s (take place xs) + 1
one_more_number from xs s j m place at above =
    let here = in_parts s j at.sealed at.under in
    let last = sum-snoc (λ (x : SealedPacket × Packet). 1) (of_since from s) (take place xs) at.sealed in
    rw (next_taken xs place at.sealed at.stands) (grind (arith, nat_tests, last, here.0, here.1, above))

-- no accepted posted draw is above that of a packet that was not got
none_greater : (plan : Plan) (h : History) (s : SubStream) (from j n earlier : ℕ) → from ≤ j
    → IsPacketAtPlace (sealed_packets plan h) s j n earlier → length (accepted_packets plan h s j) ≤ n → (ks : List ℕ)
    → AllByRecursion (λ (k : ℕ). (i : ℕ) → from ≤ i → i < k → accepted_packets plan h s i ≡ sent_packets plan h s i) ks
    → AllByRecursion (λ (k : ℕ). k < suc j) ks
none_greater plan h s from j n earlier above at missing [] complete = tt
none_greater plan h s from j n earlier above at missing (k ∷ ks) complete =
    (here (cases_lt j k), none_greater plan h s from j n earlier above at missing ks complete.1)
  where
    here : (j < k) ⊎ (k ≤ j) → k < suc j
    here (inl less) = absurd
        (omega (
          arith,
          ap length (complete.0 j above less),
          missing,
          sized_below (sealed_packets plan h) s j n earlier
              at,
        ))
    here (inr most) = omega (arith, most)

counts_met : (plan : Plan) (h : History) (s : SubStream) (unit : List Packet) → sub_bits s.sub ≢ 0
    → meets_counts plan h s unit ≡ true
    → sum_by (λ (p : Packet). p.prefix.posted) (got_since plan h s (base h s.line s.stream) ++ unit) ≤ length
    (got_since plan h (posted_lane s) (base h s.line s.stream))
unfolding meets_counts
counts_met plan h s unit other met = grind (arith, nat_tests, met, other)

-- ---- the law

module _
    (plan : Plan) (fits : StreamsFit plan) (facts : DrawFacts plan) (h : History) (e : Event) (port : PortName)
    (unit : UnitName) (effects : List Effect)
    (cause : CauseLaw plan ((e, Accepted port unit effects) ∷ h))
    (forged : NoForgeryFrom plan ((e, Accepted port unit effects) ∷ h) (received_in port unit)
    (base h port.line unit.stream)) where
  abbrev g : History
  g = (e, Accepted port unit effects) ∷ h

  abbrev s : SubStream
  s = received_in port unit

  abbrev xs : SealedList
  xs = sealed_packets plan h

  abbrev from : ℕ
  from = base h port.line unit.stream

  abbrev posted : Packet → ℕ
  posted p = p.prefix.posted

  -- under each draw no more was sealed up to one of the unit's packets than was got with the unit
  at_draw : (m place : ℕ) → IsPacketAtPlace xs s unit.draw m place → NoneMissing plan h s unit.draw
      → m < length (accepted_packets plan g s unit.draw) → (k : ℕ) → from ≤ k → k < suc unit.draw
      → sum_by posted (sub_stream_packets (take (suc place) xs) s k) ≤ sum_by posted (accepted_packets plan g s k)
  at_draw m place at none within k up less = elim (cases_eq k unit.draw) [
    | inl same ↦
        let begins = rw (sealed_same plan h e (Accepted port unit effects) refl) at
        (got_begins plan fits facts g cause s unit.draw
        (forged unit.draw (from_base plan facts h e port unit effects cause))) in
        let unfinished = sub_stream_packets (take (suc place) xs) s unit.draw in
        let shorter : length unfinished ≤ length (accepted_packets plan g s unit.draw) = omega
        (arith, sized xs s unit.draw m place at, within) in
        let all = taken_begins xs (suc place) s unit.draw in
        rw same (sum_begins posted _ _
        (two_begin unfinished (accepted_packets plan g s unit.draw) (sub_stream_packets xs s unit.draw) all begins
        shorter))
    | inr differ ↦
        let small : k < unit.draw = omega (arith, less, differ) in
        rw (got_kept plan h e port unit effects s k (λ is. small), none.own k up small)
        (sum_begins posted _ _ (taken_begins xs (suc place) s k))
  ]

  -- the posted counts of what was got, this unit included, are at least those of what was sealed up to one of its
  -- packets
  own_counts : (m place : ℕ) → IsPacketAtPlace xs s unit.draw m place → NoneMissing plan h s unit.draw
      → m < length (accepted_packets plan g s unit.draw)
      → weight from s (take (suc place) xs) ≤ sum_by posted (got_since plan g s from)
  own_counts m place at none within =
      let below = below_until xs s place unit.draw (suc place) m (facts.rises h cause.1) at (omega arith) in
      let later = below_next unit.draw (draws_got h s) (none_above plan facts h e port unit effects cause) in
      let draws = subst (AllByRecursion (λ (k : ℕ). k < suc unit.draw)) (sym (on_in plan h e port unit effects))
      (omega arith, later) in
      let sealed = sealed_total posted s from (suc unit.draw) (take (suc place) xs) below in
      let each = total-le from (suc unit.draw) (λ k. sum_by posted (sub_stream_packets (take (suc place) xs) s k))
      (λ k. sum_by posted (accepted_packets plan g s k))
      (at_draw m place at none within) in
      omega (arith, sealed, got_total posted plan g s from (suc unit.draw) draws, each)

  behind_posted : NoForgeryFrom plan h (posted_lane (received_in port unit)) (base h port.line unit.stream)
      → TotalsFit plan ((e, Accepted port unit effects) ∷ h) → BehindPosted plan h e (Accepted port unit effects)
  behind_posted unforged fit m place other if_open within stands j n earlier above before at = elim
      (cases_lt n (length (accepted_packets plan h (posted_lane s) j))) [
        | inl less ↦ less
        | inr missing ↦
            let by = accepted_by plan h e port unit effects cause.0 in
            let least = from_base plan facts h e port unit effects cause in
            let here = in_parts s unit.draw stands.sealed stands.under in
            let joins = since_joined plan h e port unit effects from least in
            let own = rw (joins, unit_that_ends plan h e port unit by.packet by.came by.passed) at
            (own_counts m place stands none within) in
            let each = counted plan facts h cause.1 s from other (facts.since_base h cause.1 s) in
            let sealed_counts = sums_to from s xs other each place stands.sealed stands.stands here.0
            (omega (arith, here.1, least)) in
            let met = counts_met plan h s (unit_packets_ended plan h port (unit_ending by.packet unit)) other by.counts
            in
            let draws = none_greater plan h (posted_lane s) from j n earlier above at missing
            (draws_got h (posted_lane s))
            none.posted in
            let posted = posted_counts plan fits facts h (posted_lane s) j n earlier from cause.1 unforged at draws
            missing in
            let one = one_more_number from xs (posted_lane s) j n earlier at above in
            let more = mono (λ (x : SealedPacket × Packet). 1) (of_since from (posted_lane s)) xs (suc earlier) place
            (omega (arith, before)) in
            absurd (omega (arith, own, sealed_counts, met, posted, one, more))
      ]
    where
      older : (t : SubStream) → is_closed plan t.line t.stream ≡ true
          → AllByRecursion (OlderIf plan h t) (draws_got h t)
      older t closed = all_older plan fits facts h cause.1 fit.1 t closed

      none : NoneMissing plan h s unit.draw
      none = elim (cases_Bool (is_closed plan port.line unit.stream)) [
        | inl closed ↦ record {
          own = older_first plan fits facts h e port unit effects cause fit.0 closed (older s closed) forged;
          posted = all_map (OlderIf plan h (posted_lane s)) (Older plan h (posted_lane s)) (draws_got h (posted_lane s))
              (λ k if_unforged. if_unforged unforged) (older (posted_lane s) closed);
        }
        | inr not_closed ↦ if_open not_closed
      ]

pub order_law : (plan : Plan) → StreamsFit plan → DrawFacts plan → (h : History) → CauseLaw plan h
    → TotalsFit plan h → LocalOrderLaw plan h
order_law plan fits facts [] cause fit = tt
order_law plan fits facts ((e, Accepted port unit effects) ∷ h) cause fit = (
  λ forged. behind_posted plan fits facts h e port unit effects cause forged.0 (λ j least. (forged.1 j least).1) fit,
  order_law plan fits facts h cause.1 fit.1,
)
order_law plan fits facts (_ ∷ h) cause fit = (λ forged. tt, order_law plan fits facts h cause.1 fit.1)
