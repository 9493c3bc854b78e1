-- Places of a list with one more element, and what holds of each element.
use Rattle.spec_links.proofs.Terms.{List, Some, [], ap, inl, inr, length, refl, slice_get, suc, zero, ℕ, ◌++◌, ◌∷◌}
use Rattle.spec_links.proofs.Terms.{◌≡◌, ◌⊎◌, AllByRecursion}

pub place_of_last : {A : Type 0} (xs : List A) (x y : A) (i : ℕ) → slice_get (xs ++ x ∷ []) i ≡ Some y
    → (slice_get xs i ≡ Some y) ⊎ ((x ≡ y) × (i ≡ length xs))
place_of_last [] x y zero is = inr (cc, refl)
place_of_last [] x y (suc i) is = absurd cc
place_of_last (z ∷ xs) x y zero is = inl is
place_of_last (z ∷ xs) x y (suc i) is = elim (place_of_last xs x y i is)
    [ inl p ↦ inl p | inr p ↦ inr (p.0, ap suc p.1) ]

pub all_of : {A : Type 0} (P : A → Type 0) → ((x : A) → P x) → (xs : List A) → AllByRecursion P xs
all_of P each [] = tt
all_of P each (x ∷ xs) = (each x, all_of P each xs)
