-- Draws that are kept on a stream are from its base on.
use Rattle.law_keys.proofs.Terms.{◌≡◌, ℕ, ◌≤◌, ◌==◌, Bool, true, false, Option, Some, List, [], ◌∷◌, length, refl, ap}
use Rattle.law_keys.proofs.Terms.{sym, ◌∙◌, arith, ◌&&◌, Event, Loss, Operation, Verdict, KeyPlan, KeyPlace}
use Rattle.law_keys.proofs.Terms.{is_on_stream, Touch, no_keys, keys, StreamStage, Idle, Establishing, Up, Refreshing}
use Rattle.law_keys.proofs.Terms.{Reach, StreamOperations, work_of, reach_of, manager_after_operation, manager_after}
use Rattle.law_keys.proofs.Terms.{History, manager, op_of, draws, work_touches, on_it, touches, moments, base}
use Rattle.law_keys.proofs.Terms.{begins_keyed, draw_on_at, key_due, KeyCauseLaw, both-true, keys_of, OwnedKeys}
use Rattle.law_keys.proofs.Terms.{AllOwned, behind_owned, came_owned, cleared_owned, owned_on, same_place}
use Rattle.law_keys.proofs.Terms.{op_after_reset, is_cleared, PortName, Begun, Work, begun_after_work, by_stream}
use Rattle.law_keys.proofs.Terms.{is_hosted, makes_draw, op_after_reach, worked_owned, None, if◌then◌else◌}
use Rattle.script_events.specs.declared.event.Event.TheVariants as event
use Rattle.event_verdicts.specs.declared.verdict.Operation.TheVariants as op
use Rattle.event_verdicts.specs.declared.verdict.Verdict.TheVariants as v
use Rattle.law_keys.proofs.States.{in_state}

abbrev pub From : ℕ → Bool → ℕ → Type 0
From b set j = b ≤ j

abbrev pub OpFrom : ℕ → StreamStage → Type 0
OpFrom b (Establishing j n) = b ≤ j
OpFrom b (Up set j) = b ≤ j
OpFrom b (Refreshing set j n) = b ≤ j
OpFrom b _ = Unit {0}

-- the state of a stream after an event, and what the event touches at a place
pub record Leads (b : ℕ) (p : KeyPlace) (m : StreamOperations) (more : List Touch) : Type 0 where
  pub low : b ≤ length m.begun
  pub op_from : OpFrom b (m.ops p.line p.stream)
  pub from : AllOwned (From b) more

-- the draw of an operation is not below the base, nor is that of the state after it
work_from : (b : ℕ) (o : Operation) (q : StreamStage) (next : ℕ) → b ≤ next → OpFrom b q
    → makes_draw (work_of o q next).operation ≡ true → b ≤ (work_of o q next).draw
work_from b o q next low from draws = grind arith

after_from : (b : ℕ) (hosted : Bool) (o : Operation) (q : StreamStage) (next : ℕ) (r : Reach) → b ≤ next → OpFrom b q
    → OpFrom b (op_after_reach hosted (work_of o q next) r)
after_from b hosted o q next r low from = grind arith

low_more : (b : ℕ) (bs : List Begun) (line stream : ℕ) (w : Work) → b ≤ length bs
    → b ≤ length (begun_after_work bs line stream w)
low_more b bs line stream w low = grind arith

operated_leads : (m : StreamOperations) (o : Operation) (l s : ℕ) (r : Option Reach) (p : KeyPlace) (b : ℕ)
    → b ≤ length m.begun
    → OpFrom b (m.ops p.line p.stream) → Leads b p (manager_after_operation m o l s r)
    (on_it (is_on_stream p l s) (work_touches (work_of o (m.ops l s) (length m.begun)) r p))
operated_leads m o l s None p b low from = record {
  low = low;
  op_from = from;
  from = by_stream p.line p.stream (λ x y f. AllOwned (From b) (on_it f [])) tt (λ x y. tt) l s;
}
operated_leads m o l s (Some r) p b low from = record {
  low = low_more b m.begun l s (work_of o (m.ops l s) (length m.begun)) low;
  op_from = by_stream p.line p.stream (λ x y f. OpFrom b
      (if f then op_after_reach (is_hosted x) (work_of o (m.ops x y) (length m.begun)) r else m.ops p.line p.stream))
      (after_from b (is_hosted p.line) o (m.ops p.line p.stream) (length m.begun) r low from) (λ x y. from) l s;
  from = by_stream p.line p.stream
      (λ x y f. AllOwned (From b) (on_it f (work_touches (work_of o (m.ops x y) (length m.begun)) (Some r) p)))
      (let w = work_of o (m.ops p.line p.stream) (length m.begun) in
      worked_owned (From b) w.operation w.set w.draw w.first w.begins (Some r) p
      (work_from b o (m.ops p.line p.stream) (length m.begun) low from)) (λ x y. tt) l s;
}

cut_from : (b : ℕ) (ends : List PortName) (line : ℕ) (q : StreamStage) → OpFrom b q
    → OpFrom b (op_after_reset ends line q)
cut_from b ends line q from = grind arith

pub leads : (m : StreamOperations) (e : Event) (w : Verdict) (p : KeyPlace) (b : ℕ) → b ≤ length m.begun
    → OpFrom b (m.ops p.line p.stream) → Leads b p (manager_after m e w) (touches m.ops (length m.begun) e w p)
leads m (event.Establish l s loss) w p b low from = operated_leads m op.Establish l s (reach_of op.Establish w) p b low
    from
leads m (event.Refresh l s loss) w p b low from = operated_leads m op.Refresh l s (reach_of op.Refresh w) p b low from
leads m (event.Stop l s loss) w p b low from = operated_leads m op.Stop l s (reach_of op.Stop w) p b low from
leads m (event.Reset l ends) (v.Reset k) p b low from = record {
  low = low;
  op_from = cut_from b ends p.line (m.ops p.line p.stream) from;
  from = cleared_owned (From b) (is_cleared ends p.side p.line);
}
leads m (event.Reset l ends) w p b low from = record { low = low; op_from = from; from = tt }
leads m e w p b low from = record { low = low; op_from = from; from = came_owned (From b) p w }

-- ---- only an idle stream begins to be keyed

pub establish_idle : (plan : KeyPlan) (h : History) (l s : ℕ) (loss : Option Loss) (w : Verdict) → w
    ≡ key_due plan h (event.Establish l s loss) w → begins_keyed (op_of h l s) (draws h) w ≡ true → op_of h l s ≡ Idle
unfolding key_due
establish_idle plan h l s loss w is begins = grind arith

-- ---- all pairs

pub record Based (h : History) (p : KeyPlace) : Type 0 where
  pub low : base h p.line p.stream ≤ draws h
  pub op_from : OpFrom (base h p.line p.stream) (op_of h p.line p.stream)
  pub keys_from : OwnedKeys (From (base h p.line p.stream)) (keys p.sends (moments h p))

-- by the base that stands after the pair
next_based : (h : History) (e : Event) (w : Verdict) (p : KeyPlace) (b : ℕ) → base ((e, w) ∷ h) p.line p.stream ≡ b
    → b ≤ draws h → OpFrom b (op_of h p.line p.stream) → OwnedKeys (From b) (keys p.sends (moments h p))
    → Based ((e, w) ∷ h) p
unfolding moments manager
next_based h e w p b is low from owned =
    let leads_to = leads (manager h) e w p b low from in
    let keys_from = behind_owned (From b) p.sends (moments h p) (touches (manager h).ops (draws h) e w p) owned
    leads_to.from in
    record { low = rw is leads_to.low; op_from = rw is leads_to.op_from; keys_from = rw is keys_from }

establish_based : (plan : KeyPlan) (h : History) (l s : ℕ) (loss : Option Loss) (w : Verdict) (p : KeyPlace)
    → KeyCauseLaw plan ((event.Establish l s loss, w) ∷ h) → Based h p → Based ((event.Establish l s loss, w) ∷ h) p
unfolding base
establish_based plan h l s loss w p cause before = by_test
    ((l == p.line) && (s == p.stream) && begins_keyed (op_of h l s) (draws h) w) refl
  where
    by_test : (f : Bool) → ((l == p.line) && (s == p.stream) && begins_keyed (op_of h l s) (draws h) w) ≡ f
        → Based ((event.Establish l s loss, w) ∷ h) p
    by_test false other = next_based h (event.Establish l s loss) w p (base h p.line p.stream) (rw other refl)
        before.low before.op_from before.keys_from
    by_test true new =
        let parts = both-true ((l == p.line) && (s == p.stream)) _ new in
        let place = same_place l s p.line p.stream parts.0 in
        let idle : op_of h p.line p.stream ≡ Idle = (λ i. op_of h (sym place.0 i) (sym place.1 i)) ∙ establish_idle plan
        h l s loss w cause.0 parts.1 in
        let at = in_state plan h cause.2 p Idle idle in
        let none : keys p.sends (moments h p) ≡ no_keys = at.is.are ∙ ap keys_of at.fits in
        next_based h (event.Establish l s loss) w p (draws h) (rw new refl) (omega arith) (rw idle tt)
        (rw none (record { first_is = tt; second_is = tt }))

-- event by event: an establish that begins finds no key and makes its draw the base, and all later draws are greater
pub based : (plan : KeyPlan) (h : History) → KeyCauseLaw plan h → (p : KeyPlace) → Based h p
unfolding base manager moments keys
based plan [] cause p = record { low = omega arith; op_from = tt; keys_from = record { first_is = tt; second_is = tt } }
based plan ((event.Establish l s loss, w) ∷ h) cause p = establish_based plan h l s loss w p cause
    (based plan h cause.2 p)
based plan ((e, w) ∷ h) cause p =
    let before = based plan h cause.2 p in
    next_based h e w p (base h p.line p.stream) refl before.low before.op_from before.keys_from

-- a draw that is On
pub on_from : (plan : KeyPlan) (h : History) → KeyCauseLaw plan h → (p : KeyPlace) (set : Bool) (j : ℕ)
    → draw_on_at h p set ≡ Some j → base h p.line p.stream ≤ j
on_from plan h cause p set j on = owned_on (From (base h p.line p.stream)) (keys p.sends (moments h p)) set j
    (based plan h cause p).keys_from on
