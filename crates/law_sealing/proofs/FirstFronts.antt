-- What comes before unit 1 of a draw on a closed stream: the total of the units of all smaller draws from Base on. By
-- induction on the history: at the send that seals the first packet of the unit, the total is of what was sealed
-- before, when no unit of this draw is finished and nothing is of a greater one; later events change no part of it
-- (Fronts).
use Rattle.law_sealing.proofs.Terms.{◌≡◌, ℕ, zero, suc, ◌+◌, ◌<◌, ◌≤◌, Bool, true, false, List, [], ◌∷◌, length, take}
use Rattle.law_sealing.proofs.Terms.{slice_get, Some, refl, ap, sym, ◌∙◌, arith, inl, inr, AllByRecursion, list_any}
use Rattle.law_sealing.proofs.Terms.{both_ways, cases_Bool, or_cases, take_at, nat_tests, PortName, Sealed}
use Rattle.law_sealing.proofs.Terms.{SealedPacket, Packet, Plan, SubStream, is_same, units, History, base, SealedList}
use Rattle.law_sealing.proofs.Terms.{sealed_packets, sent_packets, sub_stream_packets, is_sealed_under, sub_stream_of}
use Rattle.law_sealing.proofs.Terms.{total_in, ahead_of_unit, ahead_sent, is_of_unit, ahead_of_packet, CauseLaw}
use Rattle.law_sealing.proofs.Terms.{DrawFacts, StreamsFit, same_stream, is_same-refl, IsLive, AllLive, sealing_is}
use Rattle.law_sealing.proofs.Terms.{all_live, sent_bytes, sending_port}
use Rattle.law_sealing.proofs.Places.{placed, unit_is}
use Rattle.law_sealing.proofs.Totals.{total, total-same}
use Rattle.law_sealing.proofs.Sums.{all_at, in_parts, units_within, total_is}
use Rattle.law_sealing.proofs.Fronts.{packets_grow, at_front, IsSealedIn, sent_kept, base_kept, first_sealed, any_new}
use Rattle.law_sealing.proofs.Fronts.{old_or_new, one_draw, others_kept}

-- ---- the front of the first unit under a draw

any_live : (plan : Plan) (h : History) (port : PortName) (stream : ℕ) (q : SealedPacket → Bool) (ds : List SealedPacket)
    → AllLive plan h port stream ds
    → list_any q ds ≡ true → (d : SealedPacket) × IsLive plan h port stream d × (q d ≡ true)
any_live plan h port stream q [] all some = absurd cc
any_live plan h port stream q (d ∷ ds) all some = elim (or_cases (q d) (list_any q ds) some) [
  | inl is ↦ (d, all.0, is)
  | inr more ↦ any_live plan h port stream q ds all.1 more
]

draws_one : (plan : Plan) (h : History) (port : PortName) (stream : ℕ) (x : SealedPacket) (s : SubStream)
    → IsLive plan h port stream x → sub_stream_of x ≡ s → (ds : List SealedPacket) → AllLive plan h port stream ds
    → AllByRecursion (λ (d : SealedPacket). is_same (sub_stream_of d) s ≡ true → d.draw ≡ x.draw) ds
draws_one plan h port stream x s live here [] all = tt
draws_one plan h port stream x s live here (d ∷ ds) all = (
  λ also. one_draw plan h port stream d x all.0 live (same_stream (sub_stream_of d) s also ∙ sym here),
  draws_one
      plan h port stream x s live here ds all.1,
)

pub unit_parts : (s : SubStream) (j n : ℕ) (d : SealedPacket) → is_of_unit s j n d ≡ true → (sub_stream_of d ≡ s)
    × (d.draw ≡ j) × (d.unit ≡ n)
unit_parts s j n d is =
    (same_stream (sub_stream_of d) s (grind arith), grind (arith, nat_tests), grind (arith, nat_tests))

pub of_unit : (s : SubStream) (j n : ℕ) (d : SealedPacket) → sub_stream_of d ≡ s → d.draw ≡ j → d.unit ≡ n
    → is_of_unit s j n d ≡ true
of_unit s j n d stream draw unit = let here = ap (λ (t : SubStream). is_same t s) stream ∙ is_same-refl s in grind
    (arith, nat_tests, here)

pub last_none : (from j : ℕ) (f : ℕ → ℕ) → f j ≡ 0 → total from (suc j) f ≡ total from j f
last_none from j f none = grind arith

pub in_sent : (xs : SealedList) (p : ℕ) (x : SealedPacket × Packet) (s : SubStream) (j : ℕ) → slice_get xs p ≡ Some x
    → is_sealed_under s j x ≡ true → 1 ≤ length (sub_stream_packets xs s j)
unfolding sub_stream_packets
in_sent [] p x s j is under = absurd cc
in_sent (y ∷ xs) zero x s j is under = let same : y ≡ x = cc in rw (same, under) (omega arith)
in_sent (y ∷ xs) (suc p) x s j is under = grind (arith, in_sent xs p x s j is under)

abbrev pub units_sent : Plan → History → SubStream → ℕ → ℕ
units_sent plan h s i = length (units (sent_packets plan h s i))

abbrev pub sum_sent : Plan → History → SubStream → ℕ → ℕ → ℕ
sum_sent plan h s from j = total from j (λ i. units_sent plan h s i)

pub front_is : (plan : Plan) → StreamsFit plan → DrawFacts plan → (h : History) → CauseLaw plan h
    → (s : SubStream) (j : ℕ) → IsSealedIn plan h s j → base h s.line s.stream ≤ j
    → ahead_sent plan h s j 1 ≡ ahead_of_unit plan s 1 (sum_sent plan h s (base h s.line s.stream) j)
unfolding sealed_packets ahead_sent units
front_is plan fits facts [] law s j x up = let none = x.stands in absurd cc
front_is plan fits facts ((e, Sealed ds) ∷ h) law s j x up =
    let before = front_is plan fits facts h law.1 s j in
    elim (cases_Bool (list_any (is_of_unit s j 1) ds)) [
      | inl some ↦ rw some (ap (ahead_of_unit plan s 1) (from_new some))
      | inr none ↦
          let older = first_is_old none in
          rw none (before older (omega (arith, up, base_is))
          ∙ ap (ahead_of_unit plan s 1) (moved (λ i less. sent_kept plan facts h e (Sealed ds) law s i j older less)))
    ]
  where
    g : History
    g = (e, Sealed ds) ∷ h

    xs : SealedList
    xs = sealed_packets plan h

    ys : SealedList
    ys = sealed_packets plan g

    from : ℕ
    from = base h s.line s.stream

    base_is : base g s.line s.stream ≡ base h s.line s.stream
    base_is = base_kept plan facts h e (Sealed ds) law s j x up

    moved : ((i : ℕ) → i < j → sent_packets plan g s i ≡ sent_packets plan h s i)
        → sum_sent plan h s (base h s.line s.stream) j ≡ sum_sent plan g s (base g s.line s.stream) j
    moved kept =
        total-same from j (λ i. units_sent plan h s i) (λ i. units_sent plan g s i)
        (λ i above less. ap (λ ps. length (units ps)) (sym (kept i less)))
        ∙ ap (λ (b : ℕ). sum_sent plan g s b j) (sym base_is)

    -- the unit of the first packet is 1, so that it is none of the new ones
    first_is_old : list_any (is_of_unit s j 1) ds ≡ false → IsSealedIn plan h s j
    first_is_old none =
        let first = first_sealed plan g s j (in_sent ys x.place x.sealed s j x.stands x.under) in
        let y = first.0 in
        let here = in_parts s j y.sealed y.under in
        let unit = unit_is plan ys (placed plan fits facts g law) y.place y.sealed y.stands s j here.2 here.1 in
        let one : y.sealed.0.unit ≡ 1 = unit ∙ ap (λ (ps : List Packet). length (units ps) + 1) first.1 in
        record {
          place = y.place;
          sealed = y.sealed;
          stands = elim (old_or_new plan (ahead_of_packet plan xs (base h)) (sent_bytes plan h e) ds xs y.place y.sealed
              y.stands) [
                | inl old ↦ old
                | inr new ↦ absurd (both_ways _ none
                    (new.among (is_of_unit s j 1) (of_unit s j 1 y.sealed.0 here.2 here.1 one)))
              ];
          under = y.under;
        }

    -- of a new packet of unit 1, nothing before it has finished a unit, and the others of the send are of its draw
    from_new : list_any (is_of_unit s j 1) ds ≡ true
        → total_in (sealed_packets plan h) s (base h s.line s.stream) ≡ sum_sent plan g s (base g s.line s.stream) j
    from_new some =
        let is = sealing_is plan h e ds law.0 in
        let live = all_live plan h (sending_port plan h e) (sent_bytes plan h e) ds is in
        let one = any_live plan h is.sending.port is.sending.stream (is_of_unit s j 1) ds live some in
        let names = unit_parts s j 1 one.0 one.2 in
        let each = rw names.1 at (draws_one plan h is.sending.port is.sending.stream one.0 s one.1 names.0 ds live) in
        let new = any_new (is_of_unit s j 1) plan (ahead_of_packet plan xs (base h)) (sent_bytes plan h e) ds xs some in
        let z = new.1 in
        let of = unit_parts s j 1 z.0 new.3 in
        let grown = packets_grow plan h e (Sealed ds) in
        let below = all_at (λ (y : SealedPacket × Packet). is_same (sub_stream_of y.0) s ≡ true → y.0.draw < suc j) xs
        (λ i y at here.
        let front = at_front xs grown.0 i y at in
        let also = ap (λ (t : SubStream). is_same t s) of.0 ∙ is_same-refl s in
        let most = facts.rises g law s i new.0 y z (omega (arith, front.1, new.4)) (rw grown.1 at front.0) new.2 here
        also in
        omega (arith, most, of.1)) in
        let unit = unit_is plan ys (placed plan fits facts g law) new.0 z new.2 s j of.0 of.1 in
        let within = units_within ys s j (length xs) new.0 new.4 in
        let front : take (length xs) ys ≡ xs = ap (take (length xs)) (sym grown.1) ∙ take_at xs grown.0 (length xs) refl
        in
        let none : units_sent plan h s j ≡ 0 = omega
        (arith, ap (λ (zs : SealedList). length (units (sub_stream_packets zs s j))) front, within, unit, of.2) in
        total_is xs s from (suc j) below
        ∙ (last_none from j (λ i. units_sent plan h s i) none ∙ moved
        (λ i less. others_kept plan (ahead_of_packet plan xs (base h)) (sent_bytes plan h e) s i j less ds xs each))
front_is plan fits facts ((e, w) ∷ h) law s j x up =
    let same = base_kept plan facts h e w law s j x up in
    front_is plan fits facts h law.1 s j
    (record { place = x.place; sealed = x.sealed; stands = x.stands; under = x.under }) (omega (arith, up, same))
    ∙ ap (λ (b : ℕ). ahead_of_unit plan s 1 (sum_sent plan h s b j)) (sym same)
