-- A draw that was On at a place and then kept in neither of its sets is never kept there again: a key that waits for
-- its GO is of a draw that had none, and a GO finds its draw kept.
use Rattle.law_keys.proofs.Terms.{◌≡◌, ℕ, ◌<◌, ◌&&◌, ◌||◌, Bool, true, false, Some, List, [], ◌∷◌, refl, arith, not}
use Rattle.law_keys.proofs.Terms.{nat_tests, KeyPlan, Touch, Go, Keys, key_in, draw_of_keyed, without_outlived}
use Rattle.law_keys.proofs.Terms.{keys_after_touch, keys, is_on_there, is_kept_there, was_on, has_gone, StaysGone}
use Rattle.law_keys.proofs.Terms.{History, KeyCauseLaw, touches_after, moments, manager, draws, touches, KeyPlace}
use Rattle.law_keys.proofs.Terms.{Shape, IsAt, draws_started, is_open, fits, next_fits}
use Rattle.spec_keys.proofs.Touches.{Comes, AllCome}
use Rattle.law_keys.proofs.Behind.{on_started, started_behind}

-- ---- one touch

settled_on : (s : Bool) (f : ℕ → Bool) (ks : Keys) (j : ℕ) → is_on_there (without_outlived s f ks) j ≡ true
    → is_on_there ks j ≡ true
settled_on s f ks j on = grind arith

-- what a GO asks of the keys that it finds
abbrev FindsKey : Keys → Touch → Type 0
FindsKey ks (Go set j) = draw_of_keyed (key_in ks set) ≡ Some j
FindsKey ks t = Unit {0}

finds_key : (s : Bool) (ts : List Touch) (t : Touch) → Comes s ts t → FindsKey (keys s ts) t
finds_key s ts t comes = grind arith

touched_on : (s : Bool) (ks : Keys) (t : Touch) (j : ℕ) → FindsKey ks t → is_on_there (keys_after_touch s ks t) j ≡ true
    → is_kept_there ks j ≡ true
touched_on s ks t j finds on = grind (arith, nat_tests)

-- a draw that is On was kept at the moment before
on_was_kept : (s : Bool) (ts : List Touch) (t : Touch) (j : ℕ) → Comes s ts t
    → is_on_there (keys s (t ∷ ts)) j ≡ true → is_kept_there (keys s ts) j ≡ true
unfolding keys
on_was_kept s ts t j comes on = touched_on s (keys s ts) t j (finds_key s ts t comes)
    (settled_on s (is_open (t ∷ ts)) (keys_after_touch s (keys s ts) t) j on)

-- ---- a draw that was On got its GO

there_started : (s : Bool) (ts : List Touch) (j : ℕ) → is_on_there (keys s ts) j ≡ true → j < draws_started ts
there_started s ts j on = grind (arith, nat_tests, on_started s ts false j, on_started s ts true j)

was_on_started : (s : Bool) (ts : List Touch) (j : ℕ) → was_on s ts j ≡ true → j < draws_started ts
was_on_started s [] j e = absurd cc
was_on_started s (t ∷ ts) j e = by_test (is_on_there (keys s (t ∷ ts)) j) refl e (was_on_started s ts j)
  where
    by_test : (b : Bool) → is_on_there (keys s (t ∷ ts)) j ≡ b → (b || was_on s ts j) ≡ true
        → (was_on s ts j ≡ true → j < draws_started ts) → j < draws_started (t ∷ ts)
    by_test true on e before = there_started s (t ∷ ts) j on
    by_test false on e before = let lt = before e in let le = started_behind ts (t ∷ []) in omega (arith, lt, le)

-- a key that is kept and had its GO is On
kept_is_on : (s : Bool) (ts : List Touch) (sh : Shape) (j : ℕ) → IsAt s ts sh → is_kept_there (keys s ts) j ≡ true
    → j < draws_started ts → is_on_there (keys s ts) j ≡ true
kept_is_on s ts sh j is kept lt = grind (arith, nat_tests)

-- ---- a draw that has gone

gone_of : (gone on kept : Bool) → (gone || (on && not kept)) ≡ true → (gone ≡ true → on ≡ true) → on ≡ true
gone_of gone on kept e before = grind arith

gone_was_on : (s : Bool) (ts : List Touch) (j : ℕ) → has_gone s ts j ≡ true → was_on s ts j ≡ true
gone_was_on s [] j e = absurd cc
gone_was_on s (t ∷ ts) j e = later (is_on_there (keys s (t ∷ ts)) j) (was_on s ts j)
    (gone_of (has_gone s ts j) (was_on s ts j) (is_kept_there (keys s (t ∷ ts)) j) e (gone_was_on s ts j))
  where
    later : (a b : Bool) → b ≡ true → (a || b) ≡ true
    later a b e = grind arith

-- kept now and gone before is a contradiction
next_gone : (gone on kept : Bool) → (gone || (on && not kept)) ≡ true → (gone ≡ true → kept ≡ true → ⊥) → kept ≡ false
next_gone gone on kept e never = grind arith

one_stays : (s : Bool) (ts : List Touch) (t : Touch) (sh : Shape) → Comes s ts t → IsAt s (t ∷ ts) sh
    → ((j : ℕ) → has_gone s ts j ≡ true → is_kept_there (keys s ts) j ≡ false)
    → (j : ℕ) → has_gone s (t ∷ ts) j ≡ true → is_kept_there (keys s (t ∷ ts)) j ≡ false
one_stays s ts t sh comes is before j e = next_gone (has_gone s ts j) (was_on s ts j) _ e never
  where
    never : has_gone s ts j ≡ true → is_kept_there (keys s (t ∷ ts)) j ≡ true → ⊥
    never gone kept =
        let lt = was_on_started s ts j (gone_was_on s ts j gone) in
        let le = started_behind ts (t ∷ []) in
        let on = kept_is_on s (t ∷ ts) sh j is kept (omega (arith, lt, le)) in
        let was = on_was_kept s ts t j comes on in
        let none = before j gone in absurd cc

-- ---- all moments

newest : (s : Bool) (ts : List Touch) → StaysGone s ts → (j : ℕ) → has_gone s ts j ≡ true → is_kept_there (keys s ts) j
    ≡ false
newest s [] stays j e = absurd cc
newest s (t ∷ ts) stays j e = stays.0 j e

-- keys of a known shape
record Shaped (s : Bool) (ts : List Touch) : Type 0 where
  shape : Shape
  is : IsAt s ts shape

first_shaped : (s : Bool) (ts more : List Touch) → AllCome s ts more → Shaped s (touches_after ts more) → Shaped s ts
first_shaped s ts [] all last = last
first_shaped s ts (t ∷ more) all last = record { shape = all.0.shape; is = all.0.is }

behind_stays : (s : Bool) (ts more : List Touch) → AllCome s ts more → Shaped s (touches_after ts more) → StaysGone s ts
    → StaysGone s (touches_after ts more)
behind_stays s ts [] all last stays = stays
behind_stays s ts (t ∷ more) all last stays =
    let at = first_shaped s (t ∷ ts) more all.1 last in
    behind_stays s (t ∷ ts) more all.1 last (one_stays s ts t at.shape all.0 at.is (newest s ts stays), stays)

-- event by event, and touch by touch
pub stays_gone : (plan : KeyPlan) (h : History) → KeyCauseLaw plan h → (p : KeyPlace) → StaysGone p.sends (moments h p)
unfolding moments
stays_gone plan [] cause p = tt
stays_gone plan ((e, x) ∷ h) cause p =
    let turned = next_fits plan h e x cause p (fits plan h cause.2 p) in
    behind_stays p.sends (moments h p) (touches (manager h).ops (draws h) e x p) turned.come
    (record { shape = turned.now.shape; is = turned.now.is }) (stays_gone plan h cause.2 p)
