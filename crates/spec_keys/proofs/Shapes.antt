-- The keys that a place ever holds, and what each touch makes of them. They are of five shapes, and each touch is
-- computed on each shape at which it may come; with the shape goes a bound, that no draw was used above the least that
-- is On. The hard case is two keys that are On: a sender keeps the older only while a unit of it is unfinished, and a
-- receiver until it accepts a unit under the newer one or gets a third.
use Rattle.spec_keys.proofs.Terms.{◌≡◌, ℕ, ◌+◌, ◌<◌, ◌≤◌, Bool, true, false, Some, List, [], ◌∷◌, refl, arith, nat_lt}
use Rattle.spec_keys.proofs.Terms.{max, Touch, Go, Stop, Clear, Seal, Accept, Keyed, Off, Loaded, On, Keys, no_keys}
use Rattle.spec_keys.proofs.Terms.{key_in, on_in, is_open, keys, sender_draw, uses, NoneAbove, NeverFalls, nat_tests}

-- No key; one that waits for its GO in set k; one that is On; draw i is On in the other set and draw j waits in
-- set k; both are On.
pub data Shape : Type 0 where
  Bare : Shape
  Waiting : (k : Bool) (j : ℕ) → Shape
  Alone : (k : Bool) (j : ℕ) → Shape
  Following : (k : Bool) (i j : ℕ) → Shape
  Both : (k : Bool) (i j : ℕ) → Shape

-- the keys with these in set k and in the other set
abbrev pub pair_of : Bool → Keyed → Keyed → Keys
pair_of false mine other = record { first = mine; second = other }
pair_of true mine other = record { first = other; second = mine }

abbrev pub keys_of : Shape → Keys
keys_of Bare = no_keys
keys_of (Waiting k j) = pair_of k (Loaded j) Off
keys_of (Alone k j) = pair_of k (On j) Off
keys_of (Following k i j) = pair_of k (Loaded j) (On i)
keys_of (Both k i j) = pair_of k (On j) (On i)

-- one more than the greatest draw that a packet was sealed under, or a unit accepted under
unfoldable pub draws_used : List Touch → ℕ
draws_used [] = 0
draws_used (Seal j m ∷ ts) = max (j + 1) (draws_used ts)
draws_used (Accept j ∷ ts) = max (j + 1) (draws_used ts)
draws_used (_ ∷ ts) = draws_used ts

-- one more than the greatest draw whose GO came
unfoldable pub draws_started : List Touch → ℕ
draws_started [] = 0
draws_started (Go k j ∷ ts) = max (j + 1) (draws_started ts)
draws_started (_ ∷ ts) = draws_started ts

-- both, of one place
pub record Marks : Type 0 where
  pub used_below : ℕ
  pub started_below : ℕ

abbrev pub marks : List Touch → Marks
marks ts = record { used_below = draws_used ts; started_below = draws_started ts }

-- draws of keys are no smaller than those that were used; an older key of a sender stays for its unfinished unit
abbrev pub Sound : Bool → List Touch → Shape → Type 0
Sound s ts Bare = Unit {0}
Sound s ts (Waiting k j) = (draws_used ts ≤ j) × (draws_started ts ≤ j)
Sound s ts (Alone k j) = draws_used ts ≤ j + 1
Sound s ts (Following k i j) = (i < j) × (draws_used ts ≤ i + 1) × (draws_started ts ≤ j)
Sound s ts (Both k i j) = (i < j) × (draws_used ts ≤ i + 1) × (s ≡ true → is_open ts i ≡ true)

pub record IsAt (s : Bool) (ts : List Touch) (sh : Shape) : Type 0 where
  pub are : keys s ts ≡ keys_of sh
  pub sound : Sound s ts sh

-- ---- GO

-- whether the other key of a sender is over
abbrev pub after_go : Bool → Bool → Bool → ℕ → ℕ → Shape
after_go false opens k i j = Both k i j
after_go true true k i j = Both k i j
after_go true false k i j = Alone k j

-- ---- STOP, and the loss of all keys

abbrev pub without : Bool → Shape → Shape
without set Bare = Bare
without false (Waiting false j) = Bare
without true (Waiting true j) = Bare
without set (Waiting k j) = Waiting k j
without false (Alone false j) = Bare
without true (Alone true j) = Bare
without set (Alone k j) = Alone k j
without false (Following false i j) = Alone true i
without true (Following true i j) = Alone false i
without set (Following k i j) = Waiting k j
without false (Both false i j) = Alone true i
without true (Both true i j) = Alone false i
without set (Both k i j) = Alone k j

-- ---- the shape after a touch

pub at_start : (s : Bool) → IsAt s [] Bare
unfolding keys
at_start s = record { are = refl; sound = tt }

pub goes_waiting : (s : Bool) (ts : List Touch) (k : Bool) (j : ℕ) → IsAt s ts (Waiting k j)
    → IsAt s (Go k j ∷ ts) (Alone k j)
unfolding keys draws_used draws_started
goes_waiting s ts k j is = grind arith

pub goes_following : (s : Bool) (ts : List Touch) (k : Bool) (i j : ℕ) → IsAt s ts (Following k i j)
    → IsAt s (Go k j ∷ ts) (after_go s (is_open ts i) k i j)
unfolding keys draws_used draws_started is_open
goes_following s ts k i j is = grind (arith, nat_tests)

pub stops : (s : Bool) (ts : List Touch) (set : Bool) (sh : Shape) → IsAt s ts sh
    → IsAt s (Stop set ∷ ts) (without set sh)
unfolding keys draws_used draws_started is_open
stops s ts set sh is = grind arith

pub clears : (s : Bool) (ts : List Touch) → IsAt s (Clear ∷ ts) Bare
unfolding keys
clears s ts = grind arith

-- ---- what is sealed and what is accepted

pub live_waiting : (k : Bool) (j i : ℕ) → sender_draw (keys_of (Waiting k j)) ≡ Some i → ⊥
live_waiting k j i e = grind arith

pub live_alone : (k : Bool) (j i : ℕ) → sender_draw (keys_of (Alone k j)) ≡ Some i → j ≡ i
live_alone k j i e = grind arith

pub live_following : (k : Bool) (i j l : ℕ) → sender_draw (keys_of (Following k i j)) ≡ Some l → i ≡ l
live_following k i j l e = grind arith

pub live_both : (k : Bool) (i j l : ℕ) → i < j → sender_draw (keys_of (Both k i j)) ≡ Some l → i ≡ l
live_both k i j l lt e = grind (arith, nat_tests)

-- the last packet of a unit ends the older key of a sender
abbrev pub sealed_shape : Bool → Shape → Shape
sealed_shape true (Both k i j) = Alone k j
sealed_shape m sh = sh

pub seals : (ts : List Touch) (sh : Shape) (j : ℕ) (m : Bool) → IsAt true ts sh → sender_draw (keys true ts) ≡ Some j
    → IsAt true (Seal j m ∷ ts) (sealed_shape m sh)
unfolding keys draws_used draws_started is_open
seals ts sh j m is live = grind (arith, nat_tests)

-- an accepted unit under the newer key ends the older
abbrev pub is_newer : ℕ → Shape → Bool
is_newer j (Both k i l) = nat_lt i j
is_newer j sh = false

pub accepts : (ts : List Touch) (sh : Shape) (set : Bool) (j : ℕ) → IsAt false ts sh
    → on_in (key_in (keys false ts) set) ≡ Some j → IsAt false (Accept j ∷ ts) (sealed_shape (is_newer j sh) sh)
unfolding keys draws_used draws_started is_open
accepts ts sh set j is on = grind (arith, nat_tests)

-- ---- draws that are On

-- a draw that is On is at least each that was used
pub used_bound : (s : Bool) (ts : List Touch) (sh : Shape) (k : Bool) (j : ℕ) → IsAt s ts sh
    → on_in (key_in (keys s ts) k) ≡ Some j → draws_used ts ≤ j + 1
used_bound s ts sh k j is on = grind arith

one_above : (t : Touch) (ts : List Touch) (j : ℕ) → draws_used (t ∷ ts) ≤ j + 1
    → (draws_used ts ≤ j + 1 → NoneAbove j (uses ts)) → NoneAbove j (uses (t ∷ ts))
unfolding draws_used
one_above t ts j le rest = grind arith

pub none_above_used : (ts : List Touch) (j : ℕ) → draws_used ts ≤ j + 1 → NoneAbove j (uses ts)
none_above_used [] j le = tt
none_above_used (t ∷ ts) j le = one_above t ts j le (none_above_used ts j)

pub never_more : (j : ℕ) (js : List ℕ) → NoneAbove j js → NeverFalls js → NeverFalls (j ∷ js)
never_more j js none falls = grind arith
