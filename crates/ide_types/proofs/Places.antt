-- Places of a list, read and set.
use Rattle.std.proofs.Common.{◌≡◌, ℕ, suc, zero, ◌+◌, ◌<◌, List, [], ◌∷◌, ◌++◌, length, map, take, drop, get_or, Some}
use Rattle.std.proofs.Common.{refl, ap, sym, add-one, arith}
use Rattle.std.proofs.lemmas.Option.{same_Some, slice_get_within}
use Rattle.std.specs.Prelude.{slice_set, slice_get}

-- an element that is read at its place
pub get_at : {A : Type 0} (xs : List A) (i : ℕ) (x : A) → i < length xs → x ≡ get_or xs i x → slice_get xs i ≡ Some x
get_at [] i x lt is = absurd (omega arith)
get_at (y ∷ xs) zero x lt is = ap Some (sym is)
get_at (y ∷ xs) (suc i) x lt is = get_at xs i x (omega arith) is

-- what is set is read
pub read_set : {A : Type 0} (xs : List A) (p : ℕ) (v : A) → p < length xs → slice_get (slice_set xs p v) p ≡ Some v
read_set [] p v lt = absurd (omega arith)
read_set (x ∷ xs) zero v lt = refl
read_set (x ∷ xs) (suc p) v lt = read_set xs p v (omega arith)

-- what is set is read, where an element was read before
pub set_there : {A : Type 0} (xs : List A) (i : ℕ) (x y : A) → slice_get xs i ≡ Some x → slice_get (slice_set xs i y) i
    ≡ Some y
set_there xs i x y is = read_set xs i y (slice_get_within xs i x is)

-- what was set first does not matter
pub set_again : {A : Type 0} (xs : List A) (p : ℕ) (v w : A) → slice_set (slice_set xs p v) p w ≡ slice_set xs p w
set_again [] p v w = refl
set_again (x ∷ xs) zero v w = refl
set_again (x ∷ xs) (suc p) v w = ap (λ ys. x ∷ ys) (set_again xs p v w)

-- to set what was read changes nothing
pub set_read : {A : Type 0} (xs : List A) (p : ℕ) (v : A) → slice_get xs p ≡ Some v → slice_set xs p v ≡ xs
set_read [] p v is = refl
set_read (x ∷ xs) zero v is = ap (λ y. y ∷ xs) (sym (same_Some x v is))
set_read (x ∷ xs) (suc p) v is = ap (λ ys. x ∷ ys) (set_read xs p v is)

one_more_of : {A : Type 0} (f : A → A) (xs : List A) (i : ℕ) (x : A) → i < length xs → x
    ≡ get_or (map f (take i xs) ++ drop i xs) i x
    → slice_set (map f (take i xs) ++ drop i xs) i (f x) ≡ map f (take (suc i) xs) ++ drop (suc i) xs
one_more_of f [] i x lt is = absurd (omega arith)
one_more_of f (y ∷ xs) zero x lt is = ap (λ z. f z ∷ xs) is
one_more_of f (y ∷ xs) (suc i) x lt is = ap (λ zs. f y ∷ zs) (one_more_of f xs i x (omega arith) is)

-- one more element of a list is changed, those before it were
pub one_more : {A : Type 0} (f : A → A) (xs ys : List A) (i : ℕ) (x new : A) → i < length xs → ys
    ≡ (map f (take i xs) ++ drop i xs) → x ≡ get_or ys i x
    → new ≡ f (get_or ys i x) → slice_set ys i new ≡ map f (take (i + 1) xs) ++ drop (i + 1) xs
one_more f xs ys i x new lt ahead is changed =
    let read : x ≡ get_or (map f (take i xs) ++ drop i xs) i x = rw (← ahead) is in
    rw (changed, ← is, ahead, add-one) (one_more_of f xs i x lt read)
