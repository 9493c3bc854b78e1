-- A key never comes back: a draw whose GO reached a place is kept there only while it is On, and one that has gone
-- stays so.
use Rattle.spec_keys.specs.Keys.{keys}
use Rattle.law_keys.proofs.Terms.{◌≡◌, ℕ, ◌<◌, Bool, true, Some, List, [], ◌∷◌, arith, KeyPlan, Touch, key_in}
use Rattle.law_keys.proofs.Terms.{draw_of_keyed, on_in, History, moments, KeyCauseLaw, NeverAgain, went, nat_tests}
use Rattle.law_keys.proofs.Terms.{Shape, draws_started, IsAt, fits}
use Rattle.law_keys.proofs.Gone.{stays_gone}

one_more : (t : Touch) (ts : List Touch) (j : ℕ) → (went ts j ≡ true → j < draws_started ts) → went (t ∷ ts) j ≡ true
    → j < draws_started (t ∷ ts)
unfolding draws_started
one_more t ts j below e = grind (arith, nat_tests)

went_below : (ts : List Touch) (j : ℕ) → went ts j ≡ true → j < draws_started ts
went_below [] j e = absurd cc
went_below (t ∷ ts) j e = one_more t ts j (went_below ts j) e

-- a key that is kept and not On waits for its GO, so its draw has had none
kept_on : (s : Bool) (ts : List Touch) (sh : Shape) (set : Bool) (j : ℕ) → IsAt s ts sh
    → draw_of_keyed (key_in (keys s ts) set) ≡ Some j → j < draws_started ts → on_in (key_in (keys s ts) set) ≡ Some j
kept_on s ts sh set j is kept lt = grind arith

pub ended_keys_stay_out : (plan : KeyPlan) (h : History) → KeyCauseLaw plan h → NeverAgain h
ended_keys_stay_out plan h cause = record {
  gone = stays_gone plan h cause;
  on = λ p set j kept came. let at = fits plan h cause p in kept_on p.sends (moments h p) at.shape set j at.is kept
      (went_below (moments h p) j came);
}
