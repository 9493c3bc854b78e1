-- Lists that are left of others, and lists by draws, one after another.
use Rattle.std.proofs.Common.{◌≡◌, ◌≢◌, inl, inr, ℕ, zero, suc, ◌+◌, ◌<◌, ◌≤◌, List, [], ◌∷◌, ◌++◌, refl, ap, sym}
use Rattle.std.proofs.Common.{subst, ◌∙◌, arith, append_assoc}
use Rattle.std.proofs.lemmas.List.{append-nil}
use Rattle.std.proofs.lemmas.Bool.{cases_lt}
use Rattle.spec_links.specs.Laws.{IsPrefixOf}
use Rattle.law_crossings.specs.HopOrder.{IsLeftOf}

-- ---- what is left

pub left_all : {A : Type 0} (xs : List A) → IsLeftOf xs xs
left_all [] = tt
left_all (x ∷ xs) = inl (refl, left_all xs)

left_more : {A : Type 0} (xs : List A) (y : A) (ys : List A) → IsLeftOf xs ys → IsLeftOf xs (y ∷ ys)
left_more [] y ys left = tt
left_more (x ∷ xs) y ys left = inr left

pub left_of : {A : Type 0} (xs ys zs : List A) → IsLeftOf xs ys → IsLeftOf ys zs → IsLeftOf xs zs
left_of [] ys zs one two = tt
left_of (x ∷ xs) [] zs one two = absurd one
left_of (x ∷ xs) (y ∷ ys) [] one two = absurd two
left_of (x ∷ xs) (y ∷ ys) (z ∷ zs) (inl one) (inl two) = inl (one.0 ∙ two.0, left_of xs ys zs one.1 two.1)
left_of (x ∷ xs) (y ∷ ys) (z ∷ zs) (inr one) (inl two) = inr (left_of (x ∷ xs) ys zs one two.1)
left_of (x ∷ xs) (y ∷ ys) (z ∷ zs) one (inr two) = inr (left_of (x ∷ xs) (y ∷ ys) zs one two)

pub left_both : {A : Type 0} (xs ys vs ws : List A) → IsLeftOf xs ys → IsLeftOf vs ws → IsLeftOf (xs ++ vs) (ys ++ ws)
left_both [] [] vs ws one two = two
left_both [] (y ∷ ys) vs ws one two = left_more vs y (ys ++ ws) (left_both [] ys vs ws tt two)
left_both (x ∷ xs) [] vs ws one two = absurd one
left_both (x ∷ xs) (y ∷ ys) vs ws (inl one) two = inl (one.0, left_both xs ys vs ws one.1 two)
left_both (x ∷ xs) (y ∷ ys) vs ws (inr one) two = inr (left_both (x ∷ xs) ys vs ws one two)

pub prefix_left : {A : Type 0} (xs ys : List A) → IsPrefixOf xs ys → IsLeftOf xs ys
prefix_left xs ys begins = subst (IsLeftOf xs) begins.1
    (subst (λ zs. IsLeftOf zs (xs ++ begins.0)) (append-nil xs)
    (left_both xs xs [] begins.0 (left_all xs) tt))

-- ---- by draws

-- so many of them, from this one on
abbrev pub by_draws : {A : Type 0} → (ℕ → List A) → ℕ → ℕ → List A
by_draws f from zero = []
by_draws f from (suc n) = by_draws f from n ++ f (from + n)

pub same_each : {A : Type 0} (f g : ℕ → List A) (from n : ℕ)
    → ((k : ℕ) → k < n → g (from + k) ≡ f (from + k)) → by_draws g from n ≡ by_draws f from n
same_each f g from zero same = refl
same_each f g from (suc n) same =
    let before = same_each f g from n (λ k less. same k (omega (arith, less))) in
    let last = same n (omega arith) in
    (λ i. before i ++ last i)

pub left_each : {A : Type 0} (f g : ℕ → List A) (from n : ℕ) → ((j : ℕ) → from ≤ j → IsLeftOf (f j) (g j))
    → IsLeftOf (by_draws f from n) (by_draws g from n)
left_each f g from zero left = tt
left_each f g from (suc n) left =
    left_both (by_draws f from n) (by_draws g from n) (f (from + n)) (g (from + n)) (left_each f g from n left)
    (left (from + n) (omega arith))

-- draws of which there is nothing add nothing
pub none_later : {A : Type 0} (f : ℕ → List A) (from n more : ℕ) → ((j : ℕ) → from + n ≤ j → f j ≡ [])
    → by_draws f from (n + more) ≡ by_draws f from n
none_later f from n zero none = let same : n + 0 ≡ n = omega arith in ap (by_draws f from) same
none_later f from n (suc more) none =
    let same : n + suc more ≡ suc (n + more) = omega arith in
    let last : f (from + (n + more)) ≡ [] = none (from + (n + more)) (omega arith) in
    ap (by_draws f from) same
    ∙ ((λ i. by_draws f from (n + more) ++ last i) ∙ (append-nil (by_draws f from (n + more))
    ∙ none_later f from n more none))

-- what is added under one draw, of which there is nothing later, stands at the end
pub one_more : {A : Type 0} (f g : ℕ → List A) (new : List A) (from k n : ℕ) → k < n
    → g (from + k) ≡ f (from + k) ++ new → ((i : ℕ) → i ≢ from + k → g i ≡ f i)
    → ((i : ℕ) → from + k < i → f i ≡ []) → by_draws g from n ≡ by_draws f from n ++ new
one_more f g new from k zero less here other later = absurd (omega (arith, less))
one_more f g new from k (suc n) less here other later = elim (cases_lt k n) [
  | inl more ↦
      let before = one_more f g new from k n more here other later in
      let none : f (from + n) ≡ [] = later (from + n) (omega (arith, more)) in
      let last : g (from + n) ≡ f (from + n) = other (from + n) (λ is. omega (arith, is, more)) in
      (λ i. before i ++ (last ∙ none) i)
      ∙ (append-nil (by_draws f from n ++ new)
      ∙ (λ i. (sym (append-nil (by_draws f from n)) ∙ (λ k. by_draws f from n ++ sym none k)) i ++ new))
  | inr least ↦
      let same : k ≡ n = omega (arith, least, less) in
      let before = same_each f g from n (λ i small. other (from + i) (λ is. omega (arith, is, same, small))) in
      let last : g (from + n) ≡ f (from + n) ++ new = subst (λ m. g (from + m) ≡ f (from + m) ++ new) same here in
      (λ i. before i ++ last i) ∙ sym (append_assoc (by_draws f from n) (f (from + n)) new)
]
