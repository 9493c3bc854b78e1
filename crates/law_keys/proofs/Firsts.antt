-- A place gets its first key that is On in an establish, under the base of the stream.
use Rattle.spec_keys.specs.Due.{has_refresh}
use Rattle.law_keys.proofs.Terms.{None, ◌≡◌, ℕ, ◌≤◌, ◌==◌, Bool, true, false, Option, Some, List, [], ◌∷◌, length, refl}
use Rattle.law_keys.proofs.Terms.{ap, sym, ◌∙◌, arith, ◌&&◌, if◌then◌else◌, is_some, nat_tests, Host, Loss, Verdict}
use Rattle.law_keys.proofs.Terms.{KeyPlan, KeyPlace, Touch, keys, StreamStage, Idle, Establishing, Reach}
use Rattle.law_keys.proofs.Terms.{StreamOperations, work_of, reach_of, manager_after_operation, History, manager, op_of}
use Rattle.law_keys.proofs.Terms.{draws, moments, place_keys, base, begins_keyed, keeps_live, history_status, PortView}
use Rattle.law_keys.proofs.Terms.{ports_at, establish_on, refresh_on, key_due, KeyCauseLaw, marks, Shape, keys_of}
use Rattle.law_keys.proofs.Terms.{draws_used, draws_started, IsAt, Rising, FitsAt, fits, Operation, StreamStatus}
use Rattle.law_keys.proofs.Terms.{op_after_reset, PortName}
use Rattle.std.proofs.Math.Bool.{and-false}
use Rattle.script_events.specs.declared.event.Event.TheVariants as event
use Rattle.event_verdicts.specs.declared.verdict.Operation.TheVariants as op
use Rattle.event_verdicts.specs.declared.verdict.Verdict.TheVariants as v
use Rattle.law_keys.proofs.States.{in_state, is_up, keyed_up}
use Rattle.law_keys.proofs.Bases.{establish_idle}

-- ---- an establish that goes on is of the base

abbrev OpIs : ℕ → StreamStage → Type 0
OpIs b (Establishing j n) = b ≡ j
OpIs b _ = Unit {0}

other_is : (m : StreamOperations) (b : ℕ) (o : Operation) (l s line stream : ℕ) (r : Option Reach)
    → (o ≡ op.Establish → ⊥) → OpIs b (m.ops line stream) → OpIs b ((manager_after_operation m o l s r).ops line stream)
other_is m b o l s line stream r other is = grind arith

-- an establish that begins makes its draw both the base and the draw of the state; any other leaves both
established_is : (m : StreamOperations) (b l s line stream : ℕ) (r : Option Reach) → OpIs b (m.ops line stream)
    → OpIs (if (l == line) && (s == stream) && ((work_of op.Establish (m.ops l s) (length m.begun)).begins && is_some r)
    then length m.begun else b)
    ((manager_after_operation m op.Establish l s r).ops line stream)
established_is m b l s line stream r is = grind (arith, nat_tests)

cut_is : (b : ℕ) (ends : List PortName) (line : ℕ) (q : StreamStage) → OpIs b q → OpIs b (op_after_reset ends line q)
cut_is b ends line q is = grind arith

abbrev BaseIs : History → ℕ → ℕ → Type 0
BaseIs h line stream = OpIs (base h line stream) (op_of h line stream)

-- event by event: the base changes at an establish that begins, and there alone
pub base_is : (h : History) (line stream : ℕ) → BaseIs h line stream
unfolding base manager
base_is [] line stream = tt
base_is ((event.Establish l s lose, x) ∷ h) line stream =
    established_is (manager h) (base h line stream) l s line stream (reach_of op.Establish x) (base_is h line stream)
base_is ((event.Refresh l s lose, x) ∷ h) line stream = other_is (manager h) (base h line stream) op.Refresh l s line
    stream (reach_of op.Refresh x) (λ e. cc) (base_is h line stream)
base_is ((event.Stop l s lose, x) ∷ h) line stream = other_is (manager h) (base h line stream) op.Stop l s line stream
    (reach_of op.Stop x) (λ e. cc) (base_is h line stream)
base_is ((event.Reset l ends, v.Reset m) ∷ h) line stream = cut_is (base h line stream) ends line (op_of h line stream)
    (base_is h line stream)
base_is ((e, x) ∷ h) line stream = base_is h line stream

-- ---- an establish at a place with no key On

-- all that was used or started there is below the operation's draw
pub record Fresh (h : History) (p : KeyPlace) (j : ℕ) : Type 0 where
  pub used_below : draws_used (moments h p) ≤ j
  pub started_below : draws_started (moments h p) ≤ j

-- what an establish finds that reached an exchange
pub record First (h : History) (p : KeyPlace) (x : Verdict) (lose : Option Loss) : Type 0 where
  pub fresh : Fresh h p (work_of op.Establish (op_of h p.line p.stream) (draws h)).draw
  pub base_of : base ((event.Establish p.line p.stream lose, x) ∷ h) p.line p.stream
      ≡ (work_of op.Establish (op_of h p.line p.stream) (draws h)).draw

pub state_of : (plan : KeyPlan) (h : History) (l s : ℕ) (lose : Option Loss) (x : Verdict) (r : Reach) → x
    ≡ key_due plan h (event.Establish l s lose) x → reach_of op.Establish x ≡ Some r
    → is_some (reach_of op.Establish (establish_on plan (op_of h l s) (draws h) (ports_at h) l s lose)) ≡ true
unfolding key_due
state_of plan h l s lose x r is reached = grind arith

-- without a key that is On no GO has come past the draw
fresh_rising : (ts : List Touch) (s : Bool) (j a b n : ℕ) (sh : Shape) → IsAt s ts sh
    → Rising false false j a b n (marks ts) sh → keeps_live (keys_of sh) ≡ false → (draws_used ts ≤ j)
    × (draws_started ts ≤ j)
fresh_rising ts s j a b n sh is rising none = grind arith

fresh_at : (plan : KeyPlan) (q : StreamStage) (next : ℕ) (ports : PortView) (p : KeyPlace) (ts : List Touch)
    (lose : Option Loss)
    → FitsAt q next p ts → keeps_live (keys p.sends ts) ≡ false
    → is_some (reach_of op.Establish (establish_on plan q next ports p.line p.stream lose)) ≡ true
    → (draws_used ts ≤ (work_of op.Establish q next).draw) × (draws_started ts ≤ (work_of op.Establish q next).draw)
fresh_at plan Idle next ports p ts lose at none goes = (at.below.within, at.below.fresh)
fresh_at plan (Establishing j n) next ports p ts lose at none goes =
    fresh_rising ts p.sends j _ _ n at.shape at.is at.fits.2 (ap keeps_live (sym at.is.are) ∙ none)
fresh_at plan q next ports p ts lose at none goes = absurd cc

first_base : (plan : KeyPlan) (q : StreamStage) (next : ℕ) (ports : PortView) (l s b : ℕ) (lose : Option Loss)
    (r : Option Reach)
    → OpIs b q → is_some r ≡ true → is_some (reach_of op.Establish (establish_on plan q next ports l s lose)) ≡ true
    → (if (l == l) && (s == s) && ((work_of op.Establish q next).begins && is_some r) then next else b)
    ≡ (work_of op.Establish q next).draw
first_base plan q next ports l s b lose r is some goes = grind (arith, nat_tests)

pub first_keys : (plan : KeyPlan) (h : History) (p : KeyPlace) (lose : Option Loss) (x : Verdict) (r : Reach)
    → KeyCauseLaw plan ((event.Establish p.line p.stream lose, x) ∷ h) → reach_of op.Establish x ≡ Some r
    → keeps_live (place_keys h p) ≡ false → First h p x lose
unfolding base
first_keys plan h p lose x r cause reached none =
    let goes = state_of plan h p.line p.stream lose x r cause.0 reached in
    let free = fresh_at plan (op_of h p.line p.stream) (draws h) (ports_at h) p (moments h p) lose
    (fits plan h cause.2 p) none goes in
    record {
      fresh = record { used_below = free.0; started_below = free.1 };
      base_of = first_base plan (op_of h p.line p.stream) (draws h) (ports_at h) p.line p.stream _ lose
          (reach_of op.Establish x) (base_is h p.line p.stream)
          (rw reached refl) goes;
    }

-- ---- in a refresh each place has a key

reached_if : (has : Bool) (x y : Verdict) (r : Reach) → x ≡ (if has then y else v.Nothing)
    → reach_of op.Refresh x ≡ Some r → is_some (reach_of op.Refresh y) ≡ true
reached_if true x y r is reached = ap (λ (z : Verdict). is_some (reach_of op.Refresh z)) (sym is) ∙ ap is_some reached
reached_if false x y r is reached = absurd (let none : Some r ≡ None = sym reached ∙ ap (reach_of op.Refresh) is in cc)

pub refresh_state : (plan : KeyPlan) (h : History) (l s : ℕ) (lose : Option Loss) (x : Verdict) (r : Reach) → x
    ≡ key_due plan h (event.Refresh l s lose) x → reach_of op.Refresh x ≡ Some r
    → is_some (reach_of op.Refresh
    (refresh_on plan (op_of h l s) (draws h) (ports_at h) (history_status h Host l s) l s lose)) ≡ true
unfolding key_due
refresh_state plan h l s lose x r is reached = reached_if (has_refresh plan l s) x
    (refresh_on plan (op_of h l s) (draws h) (ports_at h) (history_status h Host l s) l s lose) r is reached

up_of : (plan : KeyPlan) (q : StreamStage) (next : ℕ) (ports : PortView) (host : StreamStatus) (l s : ℕ)
    (lose : Option Loss)
    → is_some (reach_of op.Refresh (refresh_on plan q next ports host l s lose)) ≡ true → is_up q ≡ true
up_of plan q next ports host l s lose goes = grind arith

pub refresh_keyed : (plan : KeyPlan) (h : History) (p : KeyPlace) (lose : Option Loss) (x : Verdict) (r : Reach)
    → KeyCauseLaw plan ((event.Refresh p.line p.stream lose, x) ∷ h) → reach_of op.Refresh x ≡ Some r
    → keeps_live (place_keys h p) ≡ true
refresh_keyed plan h p lose x r cause reached =
    keyed_up plan h cause.2 p (up_of plan (op_of h p.line p.stream) (draws h) (ports_at h) _ p.line p.stream lose
    (refresh_state plan h p.line p.stream lose x r cause.0 reached))

-- ---- if a key is On no establish begins

pub base_kept : (plan : KeyPlan) (h : History) (p : KeyPlace) (lose : Option Loss) (x : Verdict)
    → KeyCauseLaw plan ((event.Establish p.line p.stream lose, x) ∷ h) → keeps_live (place_keys h p) ≡ true
    → base ((event.Establish p.line p.stream lose, x) ∷ h) p.line p.stream ≡ base h p.line p.stream
unfolding base
base_kept plan h p lose x cause keyed = by_test ((p.line == p.line) && (p.stream == p.stream))
    (begins_keyed (op_of h p.line p.stream) (draws h) x) refl
  where
    by_test : (a f : Bool) → begins_keyed (op_of h p.line p.stream) (draws h) x ≡ f
        → (if a && f then draws h else base h p.line p.stream) ≡ base h p.line p.stream
    by_test a false e = rw (and-false a) refl
    by_test a true e =
        let at = in_state plan h cause.2 p Idle (establish_idle plan h p.line p.stream lose x cause.0 e) in
        let none : keeps_live (place_keys h p) ≡ false = ap keeps_live (at.is.are ∙ ap keys_of at.fits) in
        absurd cc
