-- Where a list is cut at one of its elements, if it is joined, mapped or filtered.
use Rattle.std.proofs.Common.{◌≡◌, ◌⊎◌, inl, inr, ℕ, zero, suc, ◌<◌, Bool, true, false, List, [], ◌∷◌, ◌++◌}
use Rattle.std.proofs.Common.{refl, ap, sym, ◌∙◌, arith, length, map, filter, if◌then◌else◌}
use Rattle.std.specs.List.{AllByRecursion}

-- a list of two parts that is cut is cut in the first or in the second
pub record InFirst {A : Type 0} (xs before : List A) (x : A) : Type 0 where
  pub rest : List A
  pub is : xs ≡ before ++ x ∷ rest

pub record InSecond {A : Type 0} (xs ys before : List A) (x : A) (after : List A) : Type 0 where
  pub front : List A
  pub whole : before ≡ xs ++ front
  pub is : ys ≡ front ++ x ∷ after

pub cut_parts : {A : Type 0} (xs ys before : List A) (x : A) (after : List A) → xs ++ ys ≡ before ++ x ∷ after
    → InFirst xs before x ⊎ InSecond xs ys before x after
cut_parts [] ys before x after is = inr (record { front = before; whole = refl; is = is })
cut_parts (z ∷ xs) ys [] x after is =
    let first : z ≡ x = cc (is) in
    inl (record { rest = xs; is = λ i. first i ∷ xs })
cut_parts (z ∷ xs) ys (b ∷ before) x after is =
    let first : z ≡ b = cc (is) in
    let rest : xs ++ ys ≡ before ++ x ∷ after = cc (is) in
    elim (cut_parts xs ys before x after rest) [
      | inl here ↦ inl (record { rest = here.rest; is = λ i. first i ∷ here.is i })
      | inr there ↦ inr (record { front = there.front; whole = λ i. sym first i ∷ there.whole i; is = there.is })
    ]

-- a mapped list that is cut
pub record MapCut {A B : Type 0} (f : A → B) (xs : List A) (before : List B) (b : B) : Type 0 where
  pub ahead : List A
  pub element : A
  pub later : List A
  pub is : xs ≡ ahead ++ element ∷ later
  pub front : map f ahead ≡ before
  pub at : f element ≡ b

pub map_cut : {A B : Type 0} (f : A → B) (xs : List A) (before : List B) (b : B) (after : List B)
    → map f xs ≡ before ++ b ∷ after → MapCut f xs before b
map_cut f [] [] b after is = absurd cc
map_cut f [] (c ∷ before) b after is = absurd cc
map_cut f (x ∷ xs) [] b after is =
    record { ahead = []; element = x; later = xs; is = refl; front = refl; at = cc (is) }
map_cut f (x ∷ xs) (c ∷ before) b after is =
    let rest = map_cut f xs before b after (cc (is)) in
    let first : f x ≡ c = cc (is) in
    record {
      ahead = x ∷ rest.ahead;
      element = rest.element;
      later = rest.later;
      is = ap (λ ys. x ∷ ys) rest.is;
      front = λ i. first i ∷ rest.front i;
      at = rest.at;
    }

-- a filtered list that is cut
pub record FilterCut {A : Type 0} (q : A → Bool) (xs before : List A) (x : A) : Type 0 where
  pub ahead : List A
  pub later : List A
  pub is : xs ≡ ahead ++ x ∷ later
  pub front : filter q ahead ≡ before
  pub passes : q x ≡ true

pub filter_cut : {A : Type 0} (q : A → Bool) (xs before : List A) (x : A) (after : List A)
    → filter q xs ≡ before ++ x ∷ after → FilterCut q xs before x
filter_cut q [] [] x after is = absurd cc
filter_cut q [] (b ∷ before) x after is = absurd cc
filter_cut q (z ∷ xs) before x after is = by (q z) refl is (filter_cut q xs)
  where
    by : (c : Bool) → q z ≡ c → (if c then z ∷ filter q xs else filter q xs) ≡ before ++ x ∷ after
        → ((before : List _) (x : _) (after : List _) → filter q xs ≡ before ++ x ∷ after → FilterCut q xs before x)
        → FilterCut q (z ∷ xs) before x
    by true passes is rest = at_front before is
      where
        at_front : (before : List _) → z ∷ filter q xs ≡ before ++ x ∷ after → FilterCut q (z ∷ xs) before x
        at_front [] is =
            let same : z ≡ x = cc (is) in
            record {
              ahead = [];
              later = xs;
              is = λ i. same i ∷ xs;
              front = refl;
              passes = ap q (sym same) ∙ passes;
            }
        at_front (b ∷ more) is =
            let same : z ≡ b = cc (is) in
            let found = rest more x after (cc (is)) in
            record {
              ahead = z ∷ found.ahead;
              later = found.later;
              is = ap (λ ys. z ∷ ys) found.is;
              front = rw passes (λ i. same i ∷ found.front i);
              passes = found.passes;
            }
    by false not is rest =
        let found = rest before x after is in
        record {
          ahead = z ∷ found.ahead;
          later = found.later;
          is = ap (λ ys. z ∷ ys) found.is;
          front = rw not found.front;
          passes = found.passes;
        }

-- the element of a number among those that pass
pub record NumberCut {A : Type 0} (q : A → Bool) (xs : List A) (n : ℕ) : Type 0 where
  pub ahead : List A
  pub element : A
  pub later : List A
  pub is : xs ≡ ahead ++ element ∷ later
  pub passes : q element ≡ true
  pub number : length (filter q ahead) ≡ n

pub number_cut : {A : Type 0} (q : A → Bool) (xs : List A) (n : ℕ) → n < length (filter q xs) → NumberCut q xs n
number_cut q [] n less = absurd (omega (arith, less))
number_cut q (z ∷ xs) n less = by (q z) refl n less (number_cut q xs)
  where
    by : (c : Bool) → q z ≡ c → (n : ℕ) → n < length (if c then z ∷ filter q xs else filter q xs)
        → ((n : ℕ) → n < length (filter q xs) → NumberCut q xs n) → NumberCut q (z ∷ xs) n
    by true passes zero less rest =
        record { ahead = []; element = z; later = xs; is = refl; passes = passes; number = refl }
    by true passes (suc n) less rest =
        let found = rest n (omega (arith, less)) in
        record {
          ahead = z ∷ found.ahead;
          element = found.element;
          later = found.later;
          is = ap (λ ys. z ∷ ys) found.is;
          passes = found.passes;
          number = rw passes (ap suc found.number);
        }
    by false not n less rest =
        let found = rest n less in
        record {
          ahead = z ∷ found.ahead;
          element = found.element;
          later = found.later;
          is = ap (λ ys. z ∷ ys) found.is;
          passes = found.passes;
          number = rw not found.number;
        }

-- what holds of each element holds of each in a part
pub all_front : {A : Type 0} (P : A → Type 0) (xs ys : List A) → AllByRecursion P (xs ++ ys) → AllByRecursion P xs
all_front P [] ys all = tt
all_front P (x ∷ xs) ys all = (all.0, all_front P xs ys all.1)

pub all_snoc : {A : Type 0} (P : A → Type 0) (xs : List A) (x : A) → AllByRecursion P xs → P x
    → AllByRecursion P (xs ++ x ∷ [])
all_snoc P [] x all one = (one, tt)
all_snoc P (y ∷ xs) x all one = (all.0, all_snoc P xs x all.1 one)
