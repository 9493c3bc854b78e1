-- What touches after others leave: marks only grow, a draw that is On got its GO, an operation opens and ends no unit.
use Rattle.law_keys.proofs.Terms.{◌≡◌, ℕ, ◌<◌, ◌≤◌, Bool, true, false, Option, Some, List, [], ◌∷◌, refl, ◌∙◌, arith}
use Rattle.law_keys.proofs.Terms.{Touch, Seal, Keyed, On, Keys, key_in, on_in, keys_after_touch, without_outlived}
use Rattle.law_keys.proofs.Terms.{is_open, keys, Event, Verdict, KeyPlace, is_on_stream, StreamStage, Work, Reach}
use Rattle.law_keys.proofs.Terms.{work_of, reach_of, touches_after, work_touches, on_it, came, touches, draws_used}
use Rattle.law_keys.proofs.Terms.{draws_started}
use Rattle.script_events.specs.declared.event.Event.TheVariants as event
use Rattle.event_verdicts.specs.declared.verdict.Operation.TheVariants as op
use Rattle.event_verdicts.specs.declared.verdict.Verdict.TheVariants as v

marks_touch : (t : Touch) (ts : List Touch) → (draws_used ts ≤ draws_used (t ∷ ts))
    × (draws_started ts ≤ draws_started (t ∷ ts))
unfolding draws_used draws_started
marks_touch t ts = grind arith

marks_behind : (ts more : List Touch) → (draws_used ts ≤ draws_used (touches_after ts more))
    × (draws_started ts ≤ draws_started (touches_after ts more))
marks_behind ts [] = omega arith
marks_behind ts (t ∷ more) = omega (arith, marks_touch t ts, marks_behind (t ∷ ts) more)

pub used_behind : (ts more : List Touch) → draws_used ts ≤ draws_used (touches_after ts more)
used_behind ts more = (marks_behind ts more).0

pub started_behind : (ts more : List Touch) → draws_started ts ≤ draws_started (touches_after ts more)
started_behind ts more = (marks_behind ts more).1

-- ---- a draw that is On got its GO

abbrev OnBelow : ℕ → Keyed → Type 0
OnBelow n (On j) = j < n
OnBelow n a = Unit {0}

record AllBelow (n : ℕ) (ks : Keys) : Type 0 where
  first_is : OnBelow n ks.first
  second_is : OnBelow n ks.second

one_below : (s : Bool) (f : ℕ → Bool) (ts : List Touch) (ks : Keys) (t : Touch) → AllBelow (draws_started ts) ks
    → AllBelow (draws_started (t ∷ ts)) (without_outlived s f (keys_after_touch s ks t))
unfolding draws_started
one_below s f ts ks t below = grind arith

all_below : (s : Bool) (ts : List Touch) → AllBelow (draws_started ts) (keys s ts)
unfolding keys
all_below s [] = record { first_is = tt; second_is = tt }
all_below s (t ∷ ts) = one_below s (is_open (t ∷ ts)) ts (keys s ts) t (all_below s ts)

pub on_started : (s : Bool) (ts : List Touch) (k : Bool) (j : ℕ) → on_in (key_in (keys s ts) k) ≡ Some j
    → j < draws_started ts
on_started s ts k j on = let below = all_below s ts in grind arith

-- ---- touches that are no seals

abbrev pub NoSeal : List Touch → Type 0
NoSeal [] = Unit {0}
NoSeal (Seal j m ∷ ts) = ⊥
NoSeal (t ∷ ts) = NoSeal ts

one_open : (t : Touch) (ts more : List Touch) (j : ℕ) → NoSeal (t ∷ more) → (is_open (t ∷ ts) j ≡ is_open ts j)
    × NoSeal more
unfolding is_open
one_open t ts more j none = grind arith

pub open_behind : (ts more : List Touch) (j : ℕ) → NoSeal more → is_open (touches_after ts more) j ≡ is_open ts j
open_behind ts [] j none = refl
open_behind ts (t ∷ more) j none = let one = one_open t ts more j none in open_behind (t ∷ ts) more j one.1 ∙ one.0

abbrev pub is_sealed : Verdict → Bool
is_sealed (v.Sealed ds) = true
is_sealed _ = false

operated_no_seal : (f : Bool) (w : Work) (r : Option Reach) (p : KeyPlace) → NoSeal (on_it f (work_touches w r p))
operated_no_seal f w r p = grind arith

came_no_seal : (p : KeyPlace) (x : Verdict) → is_sealed x ≡ false → NoSeal (came p x)
came_no_seal p x none = grind arith

pub touches_no_seal : (ops : ℕ → ℕ → StreamStage) (next : ℕ) (e : Event) (x : Verdict) (p : KeyPlace)
    → is_sealed x ≡ false → NoSeal (touches ops next e x p)
touches_no_seal ops next (event.Establish l s lose) x p none =
    operated_no_seal (is_on_stream p l s) (work_of op.Establish (ops l s) next) (reach_of op.Establish x) p
touches_no_seal ops next (event.Refresh l s lose) x p none = operated_no_seal (is_on_stream p l s)
    (work_of op.Refresh (ops l s) next) (reach_of op.Refresh x) p
touches_no_seal ops next (event.Stop l s lose) x p none = operated_no_seal (is_on_stream p l s)
    (work_of op.Stop (ops l s) next) (reach_of op.Stop x) p
touches_no_seal ops next (event.Reset l ends) x p none = grind arith
touches_no_seal ops next e x p none = came_no_seal p x none
