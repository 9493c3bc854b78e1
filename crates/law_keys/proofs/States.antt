-- What the state of a stream says of its places.
use Rattle.event_verdicts.specs.declared.verdict.Operation.TheVariants as op
use Rattle.spec_keys.proofs.Terms.{go_exchange}
use Rattle.spec_keys.specs.Keys.{keys}
use Rattle.law_keys.proofs.Terms.{◌≡◌, ℕ, Bool, true, false, Some, None, List, ◌≢◌, ◌<◌, subst, arith, KeyPlan}
use Rattle.law_keys.proofs.Terms.{KeyPlace, Touch, key_in, draw_of_keyed, on_in, StreamStage, Idle, Establishing, Up}
use Rattle.law_keys.proofs.Terms.{Refreshing, History, op_of, draws, moments, place_keys, keeps_live, KeyCauseLaw}
use Rattle.law_keys.proofs.Terms.{KeysFollowOperations, Marks, marks, Shape, keys_of, Fits, FitsAt, Rising, IsAt}
use Rattle.law_keys.proofs.Terms.{exchanges_establish, exchanges_refresh, kept_owned, fits}

-- what a place holds in such a state
pub in_state : (plan : KeyPlan) (h : History) → KeyCauseLaw plan h → (p : KeyPlace) (q : StreamStage)
    → op_of h p.line p.stream ≡ q → FitsAt q (draws h) p (moments h p)
in_state plan h cause p q is = subst (λ (x : StreamStage). FitsAt x (draws h) p (moments h p)) is (fits plan h cause p)

-- ---- what is kept and what is On at a place in each state

idle_keeps : (p : KeyPlace) (ts : List Touch) (top : ℕ) → FitsAt Idle top p ts → (set : Bool)
    → draw_of_keyed (key_in (keys p.sends ts) set) ≡ None
idle_keeps p ts top at set = grind arith

-- a place whose GO was acknowledged has the draw On
rising_on : (s : Bool) (ts : List Touch) (sh : Shape) (r k : Bool) (j a b n : ℕ) (u : Marks) → IsAt s ts sh → a < b
    → Rising r k j a b n u sh → b < n → on_in (key_in (keys s ts) k) ≡ Some j
rising_on s ts sh r k j a b n u is lt rising past = grind arith

-- in an establish no other draw is kept
rising_alone : (s : Bool) (ts : List Touch) (sh : Shape) (j a b n : ℕ) (u : Marks) (set : Bool) (i : ℕ) → IsAt s ts sh
    → Rising false false j a b n u sh → draw_of_keyed (key_in (keys s ts) set) ≡ Some i → i ≡ j
rising_alone s ts sh j a b n u set i is rising kept = grind arith

establishing_has : (p : KeyPlace) (ts : List Touch) (top j n : ℕ) → FitsAt (Establishing j n) top p ts
    → (go_exchange op.Establish p < n → on_in (key_in (keys p.sends ts) false) ≡ Some j)
    × ((set : Bool) (i : ℕ) → draw_of_keyed (key_in (keys p.sends ts) set) ≡ Some i → i ≡ j)
establishing_has p ts top j n at = (
  rising_on p.sends ts at.shape false false j _ _ n (marks ts) at.is (exchanges_establish p).in_order at.fits.2,
  λ set i. rising_alone p.sends ts at.shape j _ _ n (marks ts) set i at.is at.fits.2,
)

up_has : (p : KeyPlace) (ts : List Touch) (top : ℕ) (set : Bool) (j : ℕ) → FitsAt (Up set j) top p ts
    → (on_in (key_in (keys p.sends ts) set) ≡ Some j) ×
    ((other : Bool) (i : ℕ) → on_in (key_in (keys p.sends ts) other) ≡ Some i → i ≢ j → i < j)
up_has p ts top set j at = grind arith

refreshing_has : (p : KeyPlace) (ts : List Touch) (top : ℕ) (set : Bool) (j n : ℕ)
    → FitsAt (Refreshing set j n) top p ts → go_exchange op.Refresh p < n
    → on_in (key_in (keys p.sends ts) set) ≡ Some j
refreshing_has p ts top set j n at past = rising_on p.sends ts at.shape true set j _ _ n (marks ts) at.is
    (exchanges_refresh p).in_order at.fits.3 past

-- whether the stream is up, as it is in a refresh too
abbrev pub is_up : StreamStage → Bool
is_up (Up set j) = true
is_up (Refreshing set j n) = true
is_up q = false

up_keyed : (q : StreamStage) (top : ℕ) (u : Marks) (p : KeyPlace) (sh : Shape) → is_up q ≡ true → Fits q top u p sh
    → keeps_live (keys_of sh) ≡ true
up_keyed q top u p sh up fits = grind arith

-- then each of its places has a key that is On
pub keyed_up : (plan : KeyPlan) (h : History) → KeyCauseLaw plan h → (p : KeyPlace)
    → is_up (op_of h p.line p.stream) ≡ true → keeps_live (place_keys h p) ≡ true
keyed_up plan h cause p up =
    let at = fits plan h cause p in rw at.is.are
    (up_keyed (op_of h p.line p.stream) (draws h) (marks (moments h p)) p at.shape up at.fits)

-- each state of a stream has its shapes at each place, which say what is kept and what is On
pub keys_follow_operations : (plan : KeyPlan) (h : History) → KeyCauseLaw plan h → KeysFollowOperations h
keys_follow_operations plan h cause = record {
  idle = λ p is. idle_keeps p _ _ (in_state plan h cause p Idle is);
  establishing = λ p j n is. establishing_has p _ _ j n (in_state plan h cause p (Establishing j n) is);
  up = λ p set j is. up_has p _ _ set j (in_state plan h cause p (Up set j) is);
  refreshing = λ p set j n is. refreshing_has p _ _ set j n (in_state plan h cause p (Refreshing set j n) is);
  one_slot = λ p q k l j one two. grind (arith, kept_owned h p k j one, kept_owned h q l j two);
}
