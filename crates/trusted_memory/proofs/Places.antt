-- The first enabled byte and the last, found place by place.
use Rattle.std.proofs.Common.{◌≡◌, ℕ, zero, suc, ◌+◌, ◌<◌, ◌≤◌, Bool, true, false, cond, List, [], ◌∷◌, ◌++◌, filter}
use Rattle.std.proofs.Common.{Option, Some, None, IfSome, refl, ap, ◌∙◌, subst, inl, inr, arith, add-one, append-nil}
use Rattle.std.specs.List.{range_with_len}
use Rattle.std.proofs.lemmas.Bool.{cases_Bool}
use Rattle.trusted_memory.specs.Completions.{last_place, first_and_last, first_or}

filter-more : (p : ℕ → Bool) (a n j : ℕ) → a + n ≡ j → filter p (range_with_len a (suc n))
    ≡ filter p (range_with_len a n) ++ cond (p j) (j ∷ []) []
filter-more p a zero j e =
    let same : a ≡ j = omega arith in
    subst (λ (k : ℕ). cond (p a) (a ∷ []) [] ≡ cond (p k) (k ∷ []) []) same refl
filter-more p a (suc n) j e =
    let more = filter-more p (a + 1) n j (omega arith) in
    elim (cases_Bool (p a)) [ inl t ↦ rw t (ap (λ (s : List ℕ). a ∷ s) more) | inr t ↦ rw t more ]

last_place-append : (k j : ℕ) (xs : List ℕ) → last_place k (xs ++ j ∷ []) ≡ j
last_place-append k j [] = refl
last_place-append k j (x ∷ xs) = last_place-append x j xs

first_and_last-append : (xs : List ℕ) (j : ℕ) → first_and_last (xs ++ j ∷ []) ≡ Some (first_or (first_and_last xs) j, j)
first_and_last-append [] j = refl
first_and_last-append (x ∷ xs) j = ap (λ (n : ℕ). Some (x, n)) (last_place-append x j xs)

first_and_last-if : (xs : List ℕ) (j : ℕ) (b : Bool) → first_and_last (xs ++ cond b (j ∷ []) [])
    ≡ cond b (Some (first_or (first_and_last xs) j, j)) (first_and_last xs)
first_and_last-if xs j true = first_and_last-append xs j
first_and_last-if xs j false = ap first_and_last (append-nil xs)

-- with one place more
pub first_and_last-more : (p : ℕ → Bool) (i : ℕ) → first_and_last (filter p (range_with_len 0 (i + 1)))
    ≡ cond (p i) (Some (first_or (first_and_last (filter p (range_with_len 0 i))) i, i))
    (first_and_last (filter p (range_with_len 0 i)))
first_and_last-more p i =
    ap (λ (n : ℕ). first_and_last (filter p (range_with_len 0 n))) (add-one i)
    ∙ ap first_and_last (filter-more p 0 i i (omega arith))
    ∙ first_and_last-if (filter p (range_with_len 0 i)) i (p i)

-- the first is not past the last, and both are below the number of places
abbrev pub Within : ℕ → Option (ℕ × ℕ) → Type 0
Within n o = IfSome o (λ ends. (ends.0 ≤ ends.1) × (ends.1 < n))

pub within-more : (b : Bool) (o : Option (ℕ × ℕ)) (i : ℕ) → Within i o
    → Within (i + 1) (cond b (Some (first_or o i, i)) o)
within-more true None i h = (omega arith, omega arith)
within-more true (Some ends) i h = (omega arith, omega arith)
within-more false None i h = h
within-more false (Some ends) i h = (omega arith, omega arith)
