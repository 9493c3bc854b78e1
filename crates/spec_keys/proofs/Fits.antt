-- What a place holds, by the manager's state of its stream: each event of an operation leads from keys that fit the
-- state before it to keys that fit the state after it. A key rises, or in a stop falls, with the exchanges that were
-- acknowledged, and the end is split by whether the last one was. The hard case is a lost reply: the device may be one
-- exchange ahead of the manager, so a state leaves both open, and the exchange may come again.
use Rattle.spec_keys.proofs.Terms.{◌≡◌, ℕ, ◌+◌, ◌<◌, ◌≤◌, Bool, true, false, List, [], ◌∷◌, ◌++◌, refl, subst, arith}
use Rattle.spec_keys.proofs.Terms.{nat_lt, not, if◌then◌else◌, SubKind, Side, Operation, KeyPlace, lane, is_local}
use Rattle.spec_keys.proofs.Terms.{is_hosted, stop_exchange, Touch, Stop, Clear, Off, key_in, refuses, is_open, keys}
use Rattle.spec_keys.proofs.Terms.{StreamStage, Idle, Establishing, Up, Refreshing, Stopping, Work, Reach, new_work}
use Rattle.spec_keys.proofs.Terms.{last_exchange_of, op_after_reach, op_ended, op_at_exchange, is_number_between}
use Rattle.spec_keys.proofs.Terms.{touches_if, touches_after, program_exchange, go_exchange, from_at, below_at}
use Rattle.spec_keys.proofs.Terms.{keying_touches, stopping_touches, uses, NeverFalls, not-not, nat_tests}
use Rattle.event_verdicts.specs.declared.verdict.Operation.TheVariants as op
use Rattle.spec_keys.proofs.Tests.{true-lt, false-lt}
use Rattle.spec_keys.proofs.Shapes.{Marks, marks, draws_started, Shape, Bare, Alone, Both, keys_of, draws_used, IsAt}
use Rattle.spec_keys.proofs.Shapes.{without, stops, clears}
use Rattle.spec_keys.proofs.Touches.{AllCome}
use Rattle.spec_keys.proofs.Stages.{Rest, unkeyed, old_alone, old_both, Full, alone, both, Rising, before, At, Lands}
use Rattle.spec_keys.proofs.Stages.{Spans, rises, comes_if}

-- in a stop a host's port has no key left, and any other place a key in no set whose STOP was acknowledged
abbrev pub StopLeaves : (local : Bool) → ℕ → ℕ → Shape → Type 0
StopLeaves true a n sh = sh ≡ Bare
StopLeaves false a n sh = (a < n → key_in (keys_of sh) false ≡ Off) × (a + 6 < n → key_in (keys_of sh) true ≡ Off)

-- the last exchange of an operation on the line of a place
abbrev pub last_at : KeyPlace → Operation → ℕ
last_at p o = last_exchange_of (is_hosted p.line) o

abbrev pub Fits : StreamStage → ℕ → Marks → KeyPlace → Shape → Type 0
Fits Idle top u p sh = sh ≡ Bare
Fits (Establishing j n) top u p sh = (j < top) × (n ≤ last_at p op.Establish)
    × Rising false false j (program_exchange op.Establish p)
    (go_exchange op.Establish p) n u sh
Fits (Up k j) top u p sh = (j < top) × Full k j true sh
Fits (Refreshing k j n) top u p sh = (j < top) × (1 ≤ n) × (n ≤ last_at p op.Refresh)
    × Rising true k j (program_exchange op.Refresh p) (go_exchange op.Refresh p) n u sh
Fits (Stopping n) top u p sh = (n ≤ last_at p op.Stop) × StopLeaves (is_local p) (stop_exchange p) n sh

-- used draws are below the number of draws so far, and never fell
pub record Below (ts : List Touch) (top : ℕ) : Type 0 where
  pub within : draws_used ts ≤ top
  pub fresh : draws_started ts ≤ top
  pub falls : NeverFalls (uses ts)

pub below_more : (ts : List Touch) (top more : ℕ) → top ≤ more → Below ts top → Below ts more
below_more ts top more le below = grind arith

-- `top` is the number of draws so far
pub record FitsAt (o : StreamStage) (top : ℕ) (p : KeyPlace) (ts : List Touch) : Type 0 where
  pub shape : Shape
  pub is : IsAt p.sends ts shape
  pub fits : Fits o top (marks ts) p shape
  pub below : Below ts top

-- touches, in order, that come when they may, and what they lead to
pub record Turned (o : StreamStage) (top : ℕ) (p : KeyPlace) (ts more : List Touch) : Type 0 where
  pub now : FitsAt o top p (touches_after ts more)
  pub come : AllCome p.sends ts more

-- ---- numbers of exchanges

pub lane_below : (p : KeyPlace) → lane p ≤ 5
lane_below p = grind arith

stops_in_reach : (p : KeyPlace) → stop_exchange p + 6 ≤ last_at p op.Stop
stops_in_reach p = grind (arith, lane_below)

pub record Exchanges (o : Operation) (p : KeyPlace) : Type 0 where
  pub in_order : program_exchange o p < go_exchange o p
  pub in_reach : go_exchange o p ≤ last_at p o
  pub begins : from_at (new_work o false 0 1 true) p ≤ program_exchange o p

abbrev pub place : Side → ℕ → ℕ → Bool → SubKind → KeyPlace
place side line stream sends u = record { side = side; line = line; stream = stream; sends = sends; sub = u }

pub exchanges_establish : (p : KeyPlace) → Exchanges op.Establish p
exchanges_establish p = grind arith

pub exchanges_refresh : (p : KeyPlace) → Exchanges op.Refresh p
exchanges_refresh p = grind arith

-- how far an event came from its first exchange on
pub record Reached (first last : ℕ) (r : Reach) : Type 0 where
  pub forward : first ≤ r.acknowledged
  pub carried : r.acknowledged ≤ r.carried
  pub within_one : r.carried ≤ r.acknowledged + 1
  pub at_most : r.acknowledged ≤ last + 1

comes_to : (p : KeyPlace) (w : Work) (r : Reach) (last : ℕ) → Reached w.first last r
    → Spans (from_at w p) r.acknowledged (below_at r p)
comes_to p w r last reached = grind arith

-- ---- an event of an establish or a refresh

-- no KEY_PROG was acknowledged that the place refuses
abbrev pub TakesKey : Work → Reach → KeyPlace → List Touch → Type 0
TakesKey w r p ts = from_at w p ≤ program_exchange w.operation p → program_exchange w.operation p < r.acknowledged
    → refuses p.sends (keys p.sends ts) w.set ≡ false

below_keyed : (w : Work) (r : Reach) (p : KeyPlace) (ts : List Touch) (top : ℕ) → w.draw < top → Below ts top
    → Below (touches_after ts (keying_touches w r p)) top
unfolding draws_used draws_started
below_keyed w r p ts top lt below = grind arith

pub rising_done : (r k : Bool) (j a b n : ℕ) (u : Marks) (sh : Shape) → a < b → b < n → Rising r k j a b n u sh
    → Full k j r sh
rising_done r k j a b n u sh lt past rising = grind arith

pub full_more : (r k : Bool) (j : ℕ) (sh : Shape) → Full k j r sh → Full k j true sh
full_more r k j sh f = grind (arith, alone, both)

-- where an operation ended or stands
turned_by_end : (w : Work) (r : Reach) (top : ℕ) (p : KeyPlace) (ts more : List Touch) (P : Shape → Type 0)
    → Lands p.sends ts more P → Below (touches_after ts more) top
    → ((sh : Shape) → last_at p w.operation < r.acknowledged → P sh
    → Fits (op_ended w) top (marks (touches_after ts more)) p sh)
    → ((sh : Shape) → r.acknowledged ≤ last_at p w.operation → P sh
    → Fits (op_at_exchange w r.acknowledged) top (marks (touches_after ts more)) p sh)
    → Turned (op_after_reach (is_hosted p.line) w r) top p ts more
turned_by_end w r top p ts more P lands below ended standing = record
    { now = by_test (nat_lt (last_at p w.operation) r.acknowledged) refl; come = lands.come }
  where
    by_test : (b : Bool) → nat_lt (last_at p w.operation) r.acknowledged ≡ b
        → FitsAt (if b then op_ended w else op_at_exchange w r.acknowledged) top p (touches_after ts more)
    by_test true e = record {
      shape = lands.at.shape;
      is = lands.at.is;
      fits = ended lands.at.shape (true-lt _ _ e) lands.at.fits;
      below = below;
    }
    by_test false e = record {
      shape = lands.at.shape;
      is = lands.at.is;
      fits = standing lands.at.shape (false-lt _ _ e) lands.at.fits;
      below
          = below;
    }

-- a place that an establish or a refresh reaches
abbrev pub RisesFrom : Bool → Work → KeyPlace → List Touch → Type 0
RisesFrom r w p ts = At p.sends ts
    (Rising r w.set w.draw (program_exchange w.operation p) (go_exchange w.operation p) (from_at w p) (marks ts))

lands : (r : Bool) (w : Work) (p : KeyPlace) (ts : List Touch) (c : Reach)
    → program_exchange w.operation p < go_exchange w.operation p
    → Reached w.first (last_at p w.operation) c → TakesKey w c p ts → RisesFrom r w p ts
    → Lands p.sends ts (keying_touches w c p)
    (Rising r w.set w.draw (program_exchange w.operation p) (go_exchange w.operation p) c.acknowledged
    (marks (touches_after ts (keying_touches w c p))))
lands r w p ts c lt reached takes at = rises p.sends r w.set w.draw _ _ (from_at w p) c.acknowledged (below_at c p) ts
    lt (comes_to p w c _ reached) takes at

full_alone : (j : ℕ) (sh : Shape) → Full false j false sh → sh ≡ Alone false j
full_alone j sh f = grind arith

-- the end of an establish: its key is the only one
pub establish_ends : (p : KeyPlace) (ts : List Touch) (j first : ℕ) (begins : Bool) (c : Reach)
    → last_at p op.Establish < c.acknowledged → Reached first (last_at p op.Establish) c
    → TakesKey (new_work op.Establish false j first begins) c p ts
    → RisesFrom false (new_work op.Establish false j first begins) p ts
    → IsAt p.sends (touches_after ts (keying_touches (new_work op.Establish false j first begins) c p)) (Alone false j)
establish_ends p ts j first begins c past reached takes from =
    let numbers = exchanges_establish p in
    let risen = lands false (new_work op.Establish false j first begins) p ts c numbers.in_order reached takes from in
    rw (full_alone j risen.at.shape
    (rising_done _ _ _ _ _ _ _ _ numbers.in_order (omega (arith, past, numbers.in_reach)) risen.at.fits)) at
    risen.at.is

pub establishes : (p : KeyPlace) (ts : List Touch) (j first : ℕ) (begins : Bool) (c : Reach) (top : ℕ) → j < top
    → Below ts top → Reached first (last_at p op.Establish) c
    → TakesKey (new_work op.Establish false j first begins) c p ts
    → RisesFrom false (new_work op.Establish false j first begins) p ts
    → Turned (op_after_reach (is_hosted p.line) (new_work op.Establish false j first begins) c) top p ts
    (keying_touches (new_work op.Establish false j first begins) c p)
establishes p ts j first begins c top lt below reached takes from =
    let w = new_work op.Establish false j first begins in
    let numbers = exchanges_establish p in
    turned_by_end w c top p ts (keying_touches w c p) _ (lands false w p ts c numbers.in_order reached takes from)
    (below_keyed w c p ts top lt below)
    (λ sh past rising. (
      lt,
      full_more false false j sh
          (rising_done _ _ _ _ _ _ _ _ numbers.in_order (omega (arith, past, numbers.in_reach)) rising),
    ))
    (λ sh le rising. (lt, le, rising))

pub refreshes : (p : KeyPlace) (ts : List Touch) (k : Bool) (j first : ℕ) (begins : Bool) (c : Reach) (top : ℕ)
    → j < top → Below ts top → 1 ≤ first
    → Reached first (last_at p op.Refresh) c → TakesKey (new_work op.Refresh k j first begins) c p ts
    → RisesFrom true (new_work op.Refresh k j first begins) p ts
    → Turned (op_after_reach (is_hosted p.line) (new_work op.Refresh k j first begins) c) top p ts
    (keying_touches (new_work op.Refresh k j first begins) c p)
refreshes p ts k j first begins c top lt below least reached takes from =
    let w = new_work op.Refresh k j first begins in
    let numbers = exchanges_refresh p in
    turned_by_end w c top p ts (keying_touches w c p) _ (lands true w p ts c numbers.in_order reached takes from)
    (below_keyed w c p ts top lt below)
    (λ sh past rising. (
      lt,
      rising_done _ _ _ _ _ _ _ _ numbers.in_order (omega (arith, past, numbers.in_reach))
          rising,
    ))
    (λ sh le rising. (lt, (let on = reached.forward in omega (arith, on, least)), le, rising))

-- ---- where they begin and where they go on

from_again : (p : KeyPlace) (o : Operation) (k : Bool) (j n : ℕ) → from_at (new_work o k j n false) p ≡ n
from_again p o k j n = grind arith

pub establish_begins : (p : KeyPlace) (ts : List Touch) (top : ℕ) → FitsAt Idle top p ts
    → RisesFrom false (new_work op.Establish false top 1 true) p ts
establish_begins p ts top at =
    record {
      shape = Bare;
      is = subst (IsAt p.sends ts) at.fits at.is;
      fits = before Bare (exchanges_establish p).begins
          at.below.fresh (unkeyed at.below.within);
    }

pub establish_goes_on : (p : KeyPlace) (ts : List Touch) (top j n : ℕ) → FitsAt (Establishing j n) top p ts
    → RisesFrom false (new_work op.Establish false j n false) p ts
establish_goes_on p ts top j n at = record
    { shape = at.shape; is = at.is; fits = rw (from_again p op.Establish false j n) at.fits.2 }

rest_of : (k : Bool) (j top : ℕ) (u : Marks) (sh : Shape) → j < top → Full k j true sh → Rest (not k) top u true sh
rest_of k j top u _ lt (alone r) = subst (λ (l : Bool). Rest (not k) top u true (Alone l j)) (not-not k)
    (old_alone j lt)
rest_of k j top u _ lt (both i) = subst (λ (l : Bool). Rest (not k) top u true (Both l i j)) (not-not k)
    (old_both i j lt)

pub refresh_begins : (p : KeyPlace) (ts : List Touch) (top : ℕ) (k : Bool) (j : ℕ) → FitsAt (Up k j) top p ts
    → RisesFrom true (new_work op.Refresh (not k) top 1 true) p ts
refresh_begins p ts top k j at =
    record {
      shape = at.shape;
      is = at.is;
      fits = before at.shape (exchanges_refresh p).begins at.below.fresh
          (rest_of k j top (marks ts) at.shape at.fits.0 at.fits.1);
    }

pub refresh_goes_on : (p : KeyPlace) (ts : List Touch) (top : ℕ) (k : Bool) (j n : ℕ)
    → FitsAt (Refreshing k j n) top p ts → RisesFrom true (new_work op.Refresh k j n false) p ts
refresh_goes_on p ts top k j n at = record
    { shape = at.shape; is = at.is; fits = rw (from_again p op.Refresh k j n) at.fits.3 }

-- ---- an event of a stop

-- what a stop finds: anything at a host's port if it begins, else what it left
abbrev pub FindsStopped : (local : Bool) (a first : ℕ) (begins : Bool) → Shape → Type 0
FindsStopped true a first true sh = Unit {0}
FindsStopped local a first begins sh = StopLeaves local a first sh

-- the shape after the touches of a stop
abbrev stopped_shape : Bool → Bool → Shape → Shape
stopped_shape false false sh = sh
stopped_shape true false sh = without false sh
stopped_shape false true sh = without true sh
stopped_shape true true sh = without true (without false sh)

at_stopping : (s : Bool) (ts : List Touch) (f g : Bool) (sh : Shape) → IsAt s ts sh
    → IsAt s (touches_after ts (touches_if f (Stop false) ++ touches_if g (Stop true))) (stopped_shape f g sh)
unfolding keys draws_used draws_started is_open
at_stopping s ts f g sh is = grind (arith, stops)

stopping_keys : (a n next below : ℕ) (sh : Shape) → Spans n next below → StopLeaves false a n sh
    → StopLeaves false a next (stopped_shape (is_number_between n a below) (is_number_between n (a + 6) below) sh)
stopping_keys a n next below sh spans stopped_there = grind (arith, nat_tests)

stops_come : (s : Bool) (ts : List Touch) (f g : Bool) (sh : Shape) → IsAt s ts sh
    → AllCome s ts (touches_if f (Stop false) ++ touches_if g (Stop true))
stops_come s ts true g sh is = (
  record { shape = sh; is = is; may = tt },
  comes_if g s (Stop false ∷ ts) (without false sh) (Stop true)
      (stops s ts false sh is) tt,
)
stops_come s ts false g sh is = comes_if g s ts sh (Stop true) is tt

stops_by : (local sends : Bool) (a : ℕ) (ts : List Touch) (first last : ℕ) (begins : Bool) (r : Reach)
    → Reached first last r → At sends ts (FindsStopped local a first begins)
    → Lands sends ts (if local then touches_if begins Clear
    else touches_if (is_number_between first a r.carried) (Stop false)
    ++ touches_if (is_number_between first (a + 6) r.carried) (Stop true))
    (StopLeaves local a r.acknowledged)
stops_by true sends a ts first last true r reached at = record {
  at = record { shape = Bare; is = clears sends ts; fits = refl };
  come = (record { shape = at.shape; is = at.is; may = tt }, tt);
}
stops_by true sends a ts first last false r reached at = record
    { at = record { shape = at.shape; is = at.is; fits = at.fits }; come = tt }
stops_by false sends a ts first last begins r reached at =
    let spans : Spans first r.acknowledged r.carried = record
    { forward = reached.forward; reached = reached.carried; within_one = reached.within_one } in
    record {
      at = record {
        shape = _;
        is = at_stopping sends ts _ _ at.shape at.is;
        fits = stopping_keys a first r.acknowledged r.carried
            at.shape spans at.fits;
      };
      come = stops_come sends ts (is_number_between first a r.carried) (is_number_between first (a + 6) r.carried)
          at.shape at.is;
    }

stopped_all : (local : Bool) (a n : ℕ) (sh : Shape) → a + 6 < n → StopLeaves local a n sh → sh ≡ Bare
stopped_all local a n sh past stopping_keys = grind arith

below_stop : (w : Work) (r : Reach) (p : KeyPlace) (ts : List Touch) (top : ℕ) → Below ts top
    → Below (touches_after ts (stopping_touches w r p)) top
unfolding draws_used draws_started
below_stop w r p ts top below = grind arith

pub stops_fit : (p : KeyPlace) (ts : List Touch) (first : ℕ) (begins : Bool) (r : Reach) (top : ℕ) → Below ts top
    → Reached first (last_at p op.Stop) r → At p.sends ts (FindsStopped (is_local p) (stop_exchange p) first begins)
    → Turned (op_after_reach (is_hosted p.line) (new_work op.Stop false 0 first begins) r) top p ts
    (stopping_touches (new_work op.Stop false 0 first begins) r p)
stops_fit p ts first begins r top below reached at =
    let w = new_work op.Stop false 0 first begins in
    turned_by_end w r top p ts (stopping_touches w r p) _
    (stops_by (is_local p) p.sends (stop_exchange p) ts first _ begins r reached at) (below_stop w r p ts top below)
    (λ sh past stopped_there. stopped_all (is_local p) (stop_exchange p) r.acknowledged sh
    (omega (arith, past, stops_in_reach p)) stopped_there) (λ sh le stopped_there. (le, stopped_there))

-- after a reset a stream has no keys
pub resets_fit : (o : StreamStage) (p : KeyPlace) (ts : List Touch) (top : ℕ) → FitsAt o top p ts
    → Turned Idle top p ts (Clear ∷ [])
unfolding draws_used draws_started
resets_fit o p ts top at = record {
  now = record { shape = Bare; is = clears p.sends ts; fits = refl; below = grind arith };
  come = (record { shape = at.shape; is = at.is; may = tt }, tt);
}

-- or is to be stopped, if its keys are given by messages
stops_first : (p : KeyPlace) (sh : Shape) → is_local p ≡ false
    → (1 ≤ last_at p op.Stop) × StopLeaves (is_local p) (stop_exchange p) 1 sh
stops_first p sh told = grind arith

pub cuts_fit : (o : StreamStage) (p : KeyPlace) (ts : List Touch) (top : ℕ) (f : Bool) → is_local p ≡ false
    → FitsAt o top p ts → Turned (Stopping 1) top p ts (touches_if f Clear)
unfolding draws_used draws_started
cuts_fit o p ts top true told at = record {
  now = record { shape = Bare; is = clears p.sends ts; fits = stops_first p Bare told; below = grind arith };
  come = (record { shape = at.shape; is = at.is; may = tt }, tt);
}
cuts_fit o p ts top false told at = record {
  now = record { shape = at.shape; is = at.is; fits = stops_first p at.shape told; below = at.below };
  come = tt;
}

-- ---- which keys are taken

establish_shape_takes : (s : Bool) (j a b n : ℕ) (u : Marks) (sh : Shape) → n ≤ a → Rising false false j a b n u sh
    → refuses s (keys_of sh) false ≡ false
establish_shape_takes s j a b n u sh le rising = grind arith

-- no place refuses a key in an establish
pub establish_takes : (p : KeyPlace) (ts : List Touch) (j first : ℕ) (begins : Bool) (c : Reach)
    → RisesFrom false (new_work op.Establish false j first begins) p ts
    → TakesKey (new_work op.Establish false j first begins) c p ts
establish_takes p ts j first begins c at le lt = rw at.is.are
    (establish_shape_takes p.sends j _ _ _ (marks ts) at.shape le at.fits)
