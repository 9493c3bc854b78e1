-- A stop of a stream between devices breaks the view of each interface that is bound to it: the manager counts it among
-- those that were asked, and the view is not Unlocked.
use Rattle.law_sealing.proofs.Terms.{◌≡◌, ℕ, ◌&&◌, ◌||◌, Bool, true, ◌∷◌, Option, Some, refl, ap}
use Rattle.law_sealing.proofs.Terms.{subst, ◌∙◌, arith, if◌then◌else◌, is_some, Plan, History, Event, Verdict}
use Rattle.law_sealing.proofs.Terms.{CauseLaw}
use Rattle.ide_types.specs.Fits.{FitsPlan}
use Rattle.spec_keys.specs.History.{op_of, draws}
use Rattle.spec_keys.specs.Operations.{reach_of}
use Rattle.spec_interfaces.specs.Terms.{View, Unlocked, Locked, Running, Doubt, Broken, Loss}
use Rattle.spec_interfaces.specs.Sites.{Site, site_at}
use Rattle.spec_interfaces.specs.Views.{Managed, managed_view, view_at, stop_breaks, view_broken, is_bind_asked}
use Rattle.spec_interfaces.specs.Devices.{interface_at, is_bound_at}
use Rattle.spec_interfaces.proofs.Locks.{bound_at}
use Rattle.spec_interfaces.proofs.Views.{managed_step}
use Rattle.law_memory.proofs.Causes.{interface_cause}
use Rattle.law_locks.specs.Locks.{IsTrueOf}
use Rattle.law_locks.proofs.TrueViews.{true_views}
use Rattle.law_bindings.specs.Asked.{BreaksViews}
use Rattle.law_bindings.proofs.Calls.{none_has, binds_has}
use Rattle.law_bindings.proofs.Counted.{counted, none_locked}
use Rattle.law_locks.proofs.AllLaws.{own_number}
use Rattle.script_events.specs.declared.event.Event.TheVariants as event
use Rattle.event_verdicts.specs.declared.verdict.Operation.TheVariants as op

broken_by : (b : Bool) (m : Managed) → b ≡ true → (m.view ≡ Unlocked → ⊥)
    → (if b then record m { view = view_broken m.view } else m).view ≡ Broken
broken_by b m is locked = rw is (by m.view locked)
  where
    by : (view : View) → (view ≡ Unlocked → ⊥) → view_broken view ≡ Broken
    by Unlocked locked = absurd (locked refl)
    by Locked locked = refl
    by Running locked = refl
    by Doubt locked = refl
    by Broken locked = refl

second_so : (a b c : Bool) → b ≡ true → c ≡ true → (a || (b && c)) ≡ true
second_so a b c one two = grind (arith, one, two)

-- what is bound is not Unlocked
pub bound_locked : (plan : Plan) (h : History) → CauseLaw plan h → (x : Site) → site_at plan x.number ≡ Some x
    → (stream : ℕ) → is_bound_at plan h x stream ≡ true → view_at h x ≡ Unlocked → ⊥
bound_locked plan h cause x known stream is unlocked =
    let true_of = subst (λ (view : View). IsTrueOf view (interface_at plan h x).state) unlocked
    (true_views plan h (interface_cause plan h cause) x known) in
    let floor = binds_has stream (interface_at plan h x).bindings is in
    absurd (none_has stream floor.0 (interface_at plan h x).bindings ((bound_at plan h x).locked
    (none_locked (interface_at plan h x).state true_of)) floor.1)

stop_breaks_view : (plan : Plan) → FitsPlan plan → (h : History) (line stream : ℕ) (loss : Option Loss) (w : Verdict)
    → CauseLaw plan ((event.Stop line stream loss, w) ∷ h) → BreaksViews plan h (event.Stop line stream loss) w
stop_breaks_view plan fits h line stream loss w cause reached i x bound end at is peer line_is =
    let known = own_number plan i x at in
    let floor = binds_has bound (interface_at plan h x).bindings is in
    let counts = subst (λ (l : ℕ). is_bind_asked l (managed_view h x).asked ≡ true) line_is
    (counted plan fits h cause.1 x known bound floor.0 floor.1 end peer) in
    ap (λ (m : Managed). m.view) (managed_step h (event.Stop line stream loss) w x)
    ∙ broken_by (stop_breaks (op_of h) (draws h) x line stream w (managed_view h x)) (managed_view h x)
    (second_so _ (is_bind_asked line (managed_view h x).asked) (is_some (reach_of op.Stop w)) counts reached)
    (bound_locked plan h cause.1 x known bound is)

pub breaks_views : (plan : Plan) → FitsPlan plan → (h : History) (e : Event) (w : Verdict) → CauseLaw plan ((e, w) ∷ h)
    → BreaksViews plan h e w
breaks_views plan fits h (event.Stop line stream loss) w cause = stop_breaks_view plan fits h line stream loss w cause
breaks_views plan fits h e w cause = tt
