-- Lists whose items are changed by their places, and where the ends of a line are kept.
use Rattle.all_ends.proofs.Terms.{◌≡◌, ℕ, suc, zero, ◌+◌, ◌-◌, ◌<◌, ◌≤◌, Bool, true, false, List, [], ◌∷◌, ◌++◌}
use Rattle.all_ends.proofs.Terms.{length, refl, ap, sym, subst, arith, Some, None, option_map, slice_get}
use Rattle.all_ends.proofs.Terms.{slice_set, slice_index_or, same_Some, none-some, nat_tests, nat_lt, take, replicate}
use Rattle.all_ends.proofs.Terms.{if◌then◌else◌, LinePlace, Link, Near, Pair, line_place, changed_at}

-- ---- where the ends of a line are

-- what holds of links, of the segments of their hops towards the hosts and of the lines that are keyed by messages at
-- both ends holds of all lines
module _ (P : ℕ → LinePlace → Type 0) (link : (i : ℕ) → i < 8 → P i (Link i))
    (near : (i : ℕ) → i < 8 → P (8 + i) (Near i)) (pair : (i : ℕ) → P (16 + i) (Pair i)) (line : ℕ) where
  behind : (b : Bool) → nat_lt line 8 ≡ false → nat_lt line 16 ≡ b
      → P line (if b then Near (line - 8) else Pair (line - 16))
  behind true least is =
      let at : 8 + (line - 8) ≡ line = grind (arith, nat_tests) in
      let less : line - 8 < 8 = grind (arith, nat_tests) in
      subst (λ (n : ℕ). P n (Near (line - 8))) at (near (line - 8) less)
  behind false least is =
      let at : 16 + (line - 16) ≡ line = grind (arith, nat_tests) in
      subst (λ (n : ℕ). P n (Pair (line - 16))) at (pair (line - 16))

  by_test : (b : Bool) → nat_lt line 8 ≡ b
      → P line (if b then Link line else if nat_lt line 16 then Near (line - 8) else Pair (line - 16))
  by_test true is = link line (grind (arith, nat_tests))
  by_test false is = behind (nat_lt line 16) is refl

  pub by_place : P line (line_place line)
  by_place = by_test (nat_lt line 8) refl

-- ---- lists

pub there : {A : Type 0} (xs : List A) (i : ℕ) → i < length xs → (x : A) × (slice_get xs i ≡ Some x)
there [] i lt = absurd (omega (arith, lt))
there (x ∷ xs) zero lt = (x, refl)
there (x ∷ xs) (suc i) lt = there xs i (omega (arith, lt))

pub set_there : {A : Type 0} (xs : List A) (i : ℕ) (x y : A) → slice_get xs i ≡ Some x → slice_get (slice_set xs i y) i
    ≡ Some y
set_there [] i x y is = absurd (none-some x is)
set_there (z ∷ xs) zero x y is = refl
set_there (z ∷ xs) (suc i) x y is = set_there xs i x y is

-- what holds of the new item and of all old ones
pub each_set : {A : Type 0} (P : ℕ → A → Type 0) (xs : List A) (i : ℕ) (y : A) → P i y
    → ((j : ℕ) (x : A) → slice_get xs j ≡ Some x → P j x)
    → (j : ℕ) (z : A) → slice_get (slice_set xs i y) j ≡ Some z → P j z
each_set P [] i y new old j z is = old j z is
each_set P (x ∷ xs) zero y new old zero z is = subst (P 0) (same_Some y z is) new
each_set P (x ∷ xs) zero y new old (suc j) z is = old (suc j) z is
each_set P (x ∷ xs) (suc i) y new old zero z is = old 0 z is
each_set P (x ∷ xs) (suc i) y new old (suc j) z is = each_set (λ k. P (suc k)) xs i y new (λ k. old (suc k)) j z is

-- ---- one item changed

pub changed_is : {A : Type 0} (xs : List A) (i : ℕ) (f : A → A) (x : A) → slice_get xs i ≡ Some x → changed_at xs i f
    ≡ slice_set xs i (f x)
changed_is [] i f x is = refl
changed_is (y ∷ xs) zero f x is = ap (λ z. f z ∷ xs) (same_Some y x is)
changed_is (y ∷ xs) (suc i) f x is = ap (λ zs. y ∷ zs) (changed_is xs i f x is)

pub changed_none : {A : Type 0} (xs : List A) (i : ℕ) (f : A → A) → slice_get xs i ≡ None → changed_at xs i f ≡ xs
changed_none [] i f is = refl
changed_none (y ∷ xs) zero f is = absurd (none-some y (sym is))
changed_none (y ∷ xs) (suc i) f is = ap (λ zs. y ∷ zs) (changed_none xs i f is)

pub changed_length : {A : Type 0} (xs : List A) (i : ℕ) (f : A → A) → length (changed_at xs i f) ≡ length xs
changed_length [] i f = refl
changed_length (y ∷ xs) zero f = refl
changed_length (y ∷ xs) (suc i) f = ap (λ n. suc n) (changed_length xs i f)

-- each item is an old one, or is changed
pub each_changed : {A : Type 0} (P : ℕ → A → Type 0) (xs : List A) (i : ℕ) (f : A → A)
    → ((j : ℕ) (x : A) → slice_get xs j ≡ Some x → P j x) → ((x : A) → slice_get xs i ≡ Some x → P i x → P i (f x))
    → (j : ℕ) (z : A) → slice_get (changed_at xs i f) j ≡ Some z → P j z
each_changed P [] i f old new j z is = old j z is
each_changed P (x ∷ xs) zero f old new zero z is = subst (P 0) (same_Some (f x) z is) (new x refl (old 0 x refl))
each_changed P (x ∷ xs) zero f old new (suc j) z is = old (suc j) z is
each_changed P (x ∷ xs) (suc i) f old new zero z is = old 0 z is
each_changed P (x ∷ xs) (suc i) f old new (suc j) z is =
    each_changed (λ k. P (suc k)) xs i f (λ k. old (suc k)) new j z is

-- what a change keeps of an item is as before of all
pub seen_same : {A B : Type 0} (g : A → B) (xs : List A) (i j : ℕ) (f : A → A) → ((x : A) → g (f x) ≡ g x)
    → option_map g (slice_get (changed_at xs i f) j) ≡ option_map g (slice_get xs j)
seen_same g [] i j f same = refl
seen_same g (x ∷ xs) zero zero f same = ap (λ y. Some y) (same x)
seen_same g (x ∷ xs) zero (suc j) f same = refl
seen_same g (x ∷ xs) (suc i) zero f same = refl
seen_same g (x ∷ xs) (suc i) (suc j) f same = seen_same g xs i j f same

-- ---- a list that is filled up to a length

pub filled_get : {A : Type 0} (k n : ℕ) (xs zs : List A) (z : A) → n < length xs → n < k
    → slice_index_or (take k (xs ++ zs)) n z ≡ slice_index_or xs n z
filled_get zero n xs zs z lt less = absurd (omega (arith, less))
filled_get (suc k) n [] zs z lt less = absurd (omega (arith, lt))
filled_get (suc k) zero (x ∷ xs) zs z lt less = refl
filled_get (suc k) (suc n) (x ∷ xs) zs z lt less = filled_get k n xs zs z (omega (arith, lt)) (omega (arith, less))

pub filled_set : {A : Type 0} (k n : ℕ) (xs zs : List A) (y : A) → n < length xs → n < k
    → take k (slice_set xs n y ++ zs) ≡ slice_set (take k (xs ++ zs)) n y
filled_set zero n xs zs y lt less = absurd (omega (arith, less))
filled_set (suc k) n [] zs y lt less = absurd (omega (arith, lt))
filled_set (suc k) zero (x ∷ xs) zs y lt less = refl
filled_set (suc k) (suc n) (x ∷ xs) zs y lt less =
    ap (λ rest. x ∷ rest) (filled_set k n xs zs y (omega (arith, lt)) (omega (arith, less)))

pub filled_length : {A : Type 0} (k m : ℕ) (xs : List A) (z : A) → k ≤ length xs + m
    → length (take k (xs ++ replicate m z)) ≡ k
filled_length zero m xs z le = refl
filled_length (suc k) zero [] z le = absurd (omega (arith, le))
filled_length (suc k) (suc m) [] z le = ap (λ n. suc n) (filled_length k m [] z (omega (arith, le)))
filled_length (suc k) m (x ∷ xs) z le = ap (λ n. suc n) (filled_length k m xs z (omega (arith, le)))
