-- Bytes that are cut at the first one of a value.
use Rattle.std.proofs.Common.{◌≡◌, ◌+◌, ◌==◌, ◌<◌, ◌≤◌, ℕ, zero, suc, List, [], ◌∷◌, Bool, true, false, cond, refl, ◌∙◌}
use Rattle.std.proofs.Common.{take, drop, length, arith, Some, None}
use Rattle.std.proofs.lemmas.List.Splits.{slice_split_first}
use Rattle.std.specs.List.{position_or_len, slice_split}
use Rattle.memchr.specs.Find.{IsFirstByte, NoneBefore, Passes, is_byte}

-- ---- a search finds the first place, or none

first_step : (a x : ℕ) (xs : List ℕ) (b : Bool) (n : ℕ) → is_byte a x ≡ b → position_or_len (is_byte a) xs ≡ n
    → position_or_len (is_byte a) (x ∷ xs) ≡ cond b 0 (1 + n)
first_step a x xs true n e is = simp e refl
first_step a x xs false n e is = rw (e, is) refl

later_none : (a x : ℕ) (xs : List ℕ) (i j : ℕ) → NoneBefore (Passes (is_byte a) (x ∷ xs)) 0 (suc j) (suc i) → i < j
    → NoneBefore (Passes (is_byte a) xs) 0 j i
later_none a x xs i j first high = record
    { low = omega arith; high = high; before = λ k low under. first.before (suc k) (omega arith) (omega arith) }

not_true : (b : Bool) → (b ≡ true → ⊥) → b ≡ false
not_true true h = absurd (h refl)
not_true false h = refl

first_is : (a : ℕ) (bytes : List ℕ) (i : ℕ) → IsFirstByte (is_byte a) bytes (Some i)
    → position_or_len (is_byte a) bytes ≡ i
first_is a [] i h = absurd (omega (arith, h.0.high))
first_is a (x ∷ xs) zero h = first_step a x xs true (position_or_len (is_byte a) xs) h.1 refl
first_is a (x ∷ xs) (suc i) h =
    let under : i < length xs = omega (arith, h.0.high) in
    let first = not_true (is_byte a x) (h.0.before 0 (omega arith) (omega arith)) in
    first_step a x xs false i first (first_is a xs i (later_none a x xs i (length xs) h.0 under, h.1)) ∙ (omega arith)

pub within : (a : ℕ) (bytes : List ℕ) (i : ℕ) → IsFirstByte (is_byte a) bytes (Some i) → i < length bytes
within a bytes i h = h.0.high

pub cut_at : (a : ℕ) (bytes : List ℕ) (i : ℕ) → IsFirstByte (is_byte a) bytes (Some i)
    → slice_split (λ b. b == a) bytes ≡ take i bytes ∷ slice_split (λ b. b == a) (drop (i + 1) bytes)
cut_at a bytes i h =
    let is = first_is a bytes i h in
    rw (← is) (slice_split_first (is_byte a) bytes 0 (rw is h.0.high))

none_before : (a : ℕ) (bytes : List ℕ) → IsFirstByte (is_byte a) bytes None
    → length bytes ≤ position_or_len (is_byte a) bytes
none_before a [] h = omega arith
none_before a (x ∷ xs) h =
    let rest = none_before a xs (λ k low under. h (suc k) (omega arith) (omega arith)) in
    let is = first_step a x xs false (position_or_len (is_byte a) xs)
    (not_true (is_byte a x) (h 0 (omega arith) (omega arith))) refl in
    omega (arith, rest, is)

uncut_step : (a x : ℕ) (xs : List ℕ) (b : Bool) → is_byte a x ≡ b
    → length (x ∷ xs) ≤ position_or_len (is_byte a) (x ∷ xs)
    → (length xs ≤ position_or_len (is_byte a) xs → slice_split (is_byte a) xs ≡ xs ∷ [])
    → slice_split (is_byte a) (x ∷ xs) ≡ (x ∷ xs) ∷ []
uncut_step a x xs true e h later = let bad : length (x ∷ xs) ≤ 0 = simp e at h in absurd (omega arith)
uncut_step a x xs false e h later =
    let long : length (x ∷ xs) ≤ 1 + position_or_len (is_byte a) xs = simp e at h in
    rw (e, later (omega arith)) refl

uncut_whole : (a : ℕ) (bytes : List ℕ) → length bytes ≤ position_or_len (is_byte a) bytes
    → slice_split (is_byte a) bytes ≡ bytes ∷ []
uncut_whole a [] h = refl
uncut_whole a (x ∷ xs) h = uncut_step a x xs (is_byte a x) refl h (uncut_whole a xs)

pub uncut : (a : ℕ) (bytes : List ℕ) → IsFirstByte (is_byte a) bytes None → slice_split (λ b. b == a) bytes ≡ bytes ∷ []
uncut a bytes h = uncut_whole a bytes (none_before a bytes h)
