-- Counts of units over all draws. The finished units that were sealed, or accepted, of draws from one on are the sum
-- over these draws, by induction on the list, or on the history, since each unit is of one draw. If two such sums are
-- equal and no count of the one is above its partner in the other, all are equal, by induction on the draws.
use Rattle.law_sealing.proofs.Terms.{◌≡◌, ℕ, zero, suc, ◌+◌, ◌<◌, ◌≤◌, ◌==◌, ◌&&◌, Bool, true, List, [], ◌∷◌, ◌++◌}
use Rattle.law_sealing.proofs.Terms.{length, map, filter, take, drop, sum_by, slice_get, Some, refl, ap, sym, ◌∙◌}
use Rattle.law_sealing.proofs.Terms.{arith, length-append, if◌then◌else◌, AllByRecursion, nat_tests, append-nil}
use Rattle.law_sealing.proofs.Terms.{map-append, take-append-drop, take-take, filter-append, sum_by-cons, Accepted}
use Rattle.law_sealing.proofs.Terms.{SealedPacket, Packet, SubStream, is_same, units, units_finished, open_unit}
use Rattle.law_sealing.proofs.Terms.{History, SealedList, sub_stream_packets, is_sealed_under, sub_stream_of}
use Rattle.law_sealing.proofs.Terms.{received_in, units_got, draws_got, ends_unit_since, total_in, units_since}
use Rattle.law_sealing.proofs.Terms.{same_stream, units-append}
use Rattle.law_sealing.proofs.Totals.{total, total-le, total-same, total-none, joined, of_since, sealed_total}
use Rattle.law_sealing.proofs.Totals.{sealed_least, first_and_rest}

-- ---- lists

pub all_at : {A : Type 0} (P : A → Type 0) (xs : List A) → ((i : ℕ) (x : A) → slice_get xs i ≡ Some x → P x)
    → AllByRecursion P xs
all_at P [] each = tt
all_at P (x ∷ xs) each = (each 0 x refl, all_at P xs (λ i y is. each (suc i) y is))

pub at_taken : {A : Type 0} (xs : List A) (n i : ℕ) (x : A) → slice_get (take n xs) i ≡ Some x → (i < n)
    × (slice_get xs i ≡ Some x)
at_taken xs zero i x is = absurd cc
at_taken [] (suc n) i x is = absurd cc
at_taken (y ∷ xs) (suc n) zero x is = (omega arith, is)
at_taken (y ∷ xs) (suc n) (suc i) x is = let rest = at_taken xs n i x is in (omega (arith, rest.0), rest.1)

pub at_dropped : {A : Type 0} (xs : List A) (n i : ℕ) (x : A) → slice_get (drop n xs) i ≡ Some x → (k : ℕ) × (n ≤ k)
    × (slice_get xs k ≡ Some x)
at_dropped xs zero i x is = (i, omega arith, is)
at_dropped [] (suc n) i x is = absurd cc
at_dropped (y ∷ xs) (suc n) i x is = let rest = at_dropped xs n i x is in (suc rest.0, omega (arith, rest.1), rest.2)

pub next_taken : {A : Type 0} (xs : List A) (i : ℕ) (x : A) → slice_get xs i ≡ Some x → take (suc i) xs ≡ take i xs ++ x
    ∷ []
next_taken [] i x is = absurd cc
next_taken (y ∷ xs) zero x is = cc
next_taken (y ∷ xs) (suc i) x is = ap (λ zs. y ∷ zs) (next_taken xs i x is)

pub element_behind : {A : Type 0} (xs : List A) (x : A) (ys : List A) → slice_get (xs ++ x ∷ ys) (length xs) ≡ Some x
element_behind [] x ys = refl
element_behind (z ∷ xs) x ys = element_behind xs x ys

pub sub_stream_packets-append : (xs ys : SealedList) (s : SubStream) (k : ℕ)
    → sub_stream_packets (xs ++ ys) s k ≡ sub_stream_packets xs s k ++ sub_stream_packets ys s k
unfolding sub_stream_packets
sub_stream_packets-append xs ys s k = rw (filter-append, map-append) refl

pub none_filtered : {A : Type 0} (q : A → Bool) (xs : List A)
    → ((i : ℕ) (x : A) → slice_get xs i ≡ Some x → q x ≡ true → ⊥) → filter q xs ≡ []
none_filtered q [] never = refl
none_filtered q (x ∷ xs) never = grind (arith, none_filtered q xs (λ i y is. never (suc i) y is), never 0 x refl)

pub in_parts : (s : SubStream) (j : ℕ) (x : SealedPacket × Packet) → is_sealed_under s j x ≡ true
    → (is_same (sub_stream_of x.0) s ≡ true) × (x.0.draw ≡ j) × (sub_stream_of x.0 ≡ s)
in_parts s j x under = (grind arith, grind (arith, nat_tests), same_stream (sub_stream_of x.0) s (grind arith))

-- the draws of each sub-stream never fall
abbrev pub Rises : SealedList → Type 0
Rises xs = (s : SubStream) (i k : ℕ) (y z : SealedPacket × Packet) → i ≤ k → slice_get xs i ≡ Some y → slice_get xs k
    ≡ Some z → is_same (sub_stream_of y.0) s ≡ true → is_same (sub_stream_of z.0) s ≡ true → y.0.draw ≤ z.0.draw

-- what is of a smaller draw was sealed before the place
pub smaller_before : (xs : SealedList) (s : SubStream) (place d k : ℕ) (x : SealedPacket × Packet) → Rises xs
    → slice_get xs place ≡ Some x
    → is_sealed_under s d x ≡ true → k < d → sub_stream_packets (take place xs) s k ≡ sub_stream_packets xs s k
unfolding sub_stream_packets
smaller_before xs s place d k x rises stands under less =
    let here = in_parts s d x under in
    let none : sub_stream_packets (drop place xs) s k ≡ [] = ap (map (λ (x : SealedPacket × Packet). x.1))
    (none_filtered (is_sealed_under s k) (drop place xs) (λ i y is below.
    let there = at_dropped xs place i y is in
    let tests = in_parts s k y below in
    let least = rises s place there.0 x y there.1 stands there.2 here.0 tests.0 in
    omega (arith, least, here.1, tests.1, less))) in
    sym (simp (take-append-drop, none, append-nil) at (sub_stream_packets-append (take place xs) (drop place xs) s k))

-- the shorter of two beginnings has no more units
pub units_within : (xs : SealedList) (s : SubStream) (j a b : ℕ) → a ≤ b
    → length (units (sub_stream_packets (take a xs) s j)) ≤ length (units (sub_stream_packets (take b xs) s j))
units_within xs s j a b le =
    let first = sub_stream_packets (take a xs) s j in
    let rest = sub_stream_packets (drop a (take b xs)) s j in
    let all : sub_stream_packets (take b xs) s j ≡ first ++ rest =
    rw (take-append-drop, take-take a b xs le) at
    (sub_stream_packets-append (take a (take b xs)) (drop a (take b xs)) s j) in
    rw (all, units-append first rest)
    (omega (arith, length-append (units first) (units_finished (open_unit first) rest)))

-- ---- sums

abbrev ends_one : Packet → ℕ
ends_one p = if p.prefix.m then 1 else 0

units_count : (unfinished ps : List Packet) → sum_by ends_one ps ≡ length (units_finished unfinished ps)
units_count unfinished [] = refl
units_count unfinished (p ∷ ps) = grind
    (arith, units_count [] ps, units_count (unfinished ++ p ∷ []) ps, sum_by-cons ends_one p ps)

count_units : (ps : List Packet) → sum_by ends_one ps ≡ length (units ps)
unfolding units
count_units ps = units_count [] ps

count_all : (xs : SealedList) (s : SubStream) (from n : ℕ)
    → total from n (λ k. sum_by ends_one (sub_stream_packets xs s k))
    ≡ total from n (λ k. length (units (sub_stream_packets xs s k)))
count_all xs s from n = total-same from n _ _ (λ k up less. count_units (sub_stream_packets xs s k))

count_ends : (s : SubStream) (from : ℕ) (xs : SealedList) → length (filter (ends_unit_since s from) xs)
    ≡ sum_by (λ (x : SealedPacket × Packet). ends_one x.1) (filter (of_since from s) xs)
count_ends s from [] = refl
count_ends s from (x ∷ xs) = grind (
  arith,
  count_ends s from xs,
  sum_by-cons (λ (x : SealedPacket × Packet). ends_one x.1) x
      (filter (of_since from s) xs),
)

-- the finished units under all draws
pub total_is : (xs : SealedList) (s : SubStream) (from n : ℕ)
    → AllByRecursion (λ (x : SealedPacket × Packet). is_same (sub_stream_of x.0) s ≡ true → x.0.draw < n) xs
    → total_in xs s from ≡ total from n (λ k. length (units (sub_stream_packets xs s k)))
unfolding total_in
total_is xs s from n below = count_ends s from xs ∙ (sealed_total ends_one s from n xs below ∙ count_all xs s from n)

-- of two with the same sum, one nowhere above the other
pub total-eq : (from n : ℕ) (f g : ℕ → ℕ) → ((k : ℕ) → from ≤ k → k < n → f k ≤ g k) → total from n f ≡ total from n g
    → (k : ℕ) → from ≤ k → k < n → f k ≡ g k
total-eq from zero f g le same k up less = absurd (omega arith)
total-eq from (suc n) f g le same k up less =
    let most = total-le from n f g (λ i above below. le i above (omega (arith, below))) in
    let more = total-eq from n f g (λ i above below. le i above (omega (arith, below))) in
    grind (arith, nat_tests, most, le n, same, more)

-- the units up to a draw are no more than all
pub total_within : (xs : SealedList) (s : SubStream) (from j : ℕ)
    → total from j (λ k. length (units (sub_stream_packets xs s k))) ≤ total_in xs s from
unfolding total_in
total_within xs s from j = omega (arith, count_all xs s from j, count_ends s from xs, sealed_least ends_one s from j xs)

-- ---- of a receiver

pub since_total : (h : History) (s : SubStream) (from n : ℕ) → AllByRecursion (λ (j : ℕ). j < n) (draws_got h s)
    → units_since h s from ≡ total from n (λ k. units_got h s k)
unfolding units_since units_got draws_got
since_total [] s from n below = sym (total-none from n)
since_total ((e, Accepted port unit effects) ∷ h) s from n below =
    let parts = first_and_rest (λ (j : ℕ). j < n) t unit.draw (draws_got h s) below in
    let rest = since_total h s from n parts.1 in
    let here = joined t from n unit.draw 1 (λ k. units_got h s k)
    (λ k. if t && (unit.draw == k) then units_got h s k + 1 else units_got h s k) parts.0
    (λ k. grind (arith, nat_tests)) in
    grind (arith, rest, here)
  where
    t : Bool
    t = is_same (received_in port unit) s
since_total (_ ∷ h) s from n below = since_total h s from n below
