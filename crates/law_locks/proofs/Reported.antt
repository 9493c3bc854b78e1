-- An interface in RUN was reported since its lock.
use Rattle.std.proofs.Common.{◌≡◌, ◌⊎◌, ℕ, ◌==◌, ◌∷◌, Bool, true, false, List, [], Option, Some}
use Rattle.std.proofs.Common.{if◌then◌else◌, refl, sym, ap, ◌∙◌, inl, inr, subst, arith}
use Rattle.std.proofs.lemmas.Bool.{and_parts, cases_Bool, true≢false}
use Rattle.law_locks.proofs.Runs.{other_not}
use Rattle.spec_interfaces.specs.Terms.{Plan, View, Unlocked, Locked, Running, Doubt, Broken, Event, InterfaceEvent}
use Rattle.spec_interfaces.specs.Terms.{Loss, Verdict, History, op_of, draws, kept_report, lock_of, option_map}
use Rattle.spec_interfaces.specs.Sites.{Site, site_at}
use Rattle.spec_interfaces.specs.Exchanges.{carries}
use Rattle.spec_interfaces.specs.Views.{Managed, on_lock, on_start, on_halt, on_state, on_bind, view_broken}
use Rattle.spec_interfaces.specs.Views.{number_in, is_number, stop_breaks, view_at}
unfoldable use Rattle.spec_interfaces.specs.Views.{managed_view}
use Rattle.spec_interfaces.specs.Devices.{around_at_site, accepts_lock, runs_at, interface_at}
unfoldable use Rattle.spec_interfaces.specs.Devices.{devices, registers_locked}
use Rattle.spec_interfaces.specs.Due.{interface_due, if_unlocked, if_locked}
use Rattle.spec_interfaces.specs.Due.{if_reported, if_locked_or_running, report_verdict}
use Rattle.spec_interfaces.specs.Cause.{InterfaceCause}
use Rattle.spec_interfaces.proofs.RunLaws.{interface_run_law}
use Rattle.spec_interfaces.proofs.Rests.{starts, rests_on, locks_it, not_accepted}
use Rattle.spec_interfaces.proofs.Views.{managed_step, managed_own, managed_other, same_number, due_own, not_carried}
use Rattle.law_mmio.proofs.RunLocks.{runs_unlocked, same_locks}
use Rattle.law_locks.specs.Locks.{IsReported}
use Rattle.script_events.specs.declared.event.Event.TheVariants as event
use Rattle.script_events.specs.declared.event.InterfaceEvent.TheVariants as ie
use Rattle.event_verdicts.specs.declared.verdict.Verdict.TheVariants as v
use Rattle.ide_types.specs.declared.verdict.InterfaceVerdict.TheVariants as iv

-- ---- a report under the lock that stands

kept : (plan : Plan) (h : History) (e : Event) (w : Verdict) (x : Site)
    → accepts_lock (around_at_site plan h x) x e w (interface_at plan h x) ≡ false
    → IsReported plan h x → IsReported plan ((e, w) ∷ h) x
unfolding devices registers_locked
kept plan h e w x none was = record {
  loss = was.loss;
  report = was.report;
  older = was.older;
  since = (e, w) ∷ was.since;
  came = ap (λ (g : History). (e, w) ∷ g) was.came;
  same_lock = was.same_lock ∙ sym (same_locks plan h e w x none);
  report_is = rw none was.report_is;
}

number_of : (plan : Plan) (x : Site) (view : View) (loss : Option Loss) (o : Option (List ℕ)) (n : ℕ) (report : List ℕ)
    → v.Interface (iv.Reported n report) ≡ if_locked_or_running view (report_verdict plan x loss o) → n ≡ x.number
number_of plan x view loss o n report e = grind arith

-- a report that the pair shows
shown : (plan : Plan) (h : History) (i : ℕ) (loss : Option Loss) (n : ℕ) (report : List ℕ) (x : Site)
    → site_at plan x.number ≡ Some x → (i == x.number) ≡ true
    → InterfaceCause plan ((event.Interface (ie.Report i loss), v.Interface (iv.Reported n report)) ∷ h)
    → IsReported plan ((event.Interface (ie.Report i loss), v.Interface (iv.Reported n report)) ∷ h) x
unfolding devices registers_locked
shown plan h i loss n report x at own cause =
    let number = same_number i x.number own in
    let due = due_own plan h x (ie.Report i loss) i (v.Interface (iv.Reported n report)) at refl own cause.0 in
    let n_is = number_of plan x (managed_view h x).view loss
    (option_map (kept_report x.plan) (lock_of (interface_at plan h x).state)) n report due in
    record {
      loss = loss;
      report = report;
      older = h;
      since = [];
      came = rw (number, n_is) refl;
      same_lock = omega arith;
      report_is = (interface_run_law plan ((event.Interface (ie.Report i loss), v.Interface (iv.Reported n report)) ∷ h)
          cause).1
          x (subst (λ (k : ℕ). site_at plan k ≡ Some x) (sym number) at);
    }

-- ---- what the manager keeps

-- the manager has the report of the lock that stands
abbrev pub HasReport : Plan → History → Site → Type 0
HasReport plan h x = view_at h x ≡ Locked → (managed_view h x).reported ≡ true → IsReported plan h x

-- if it has it after a pair, it had it before
abbrev Leaves : Managed → Managed → Type 0
Leaves m n = n.view ≡ Locked → n.reported ≡ true → (m.view ≡ Locked) × (m.reported ≡ true)

same_leaves : (m n : Managed) → n ≡ m → Leaves m n
same_leaves m n same view reported =
    (sym (ap (λ (k : Managed). k.view) same) ∙ view, sym (ap (λ (k : Managed). k.reported) same) ∙ reported)

as_leaves : (m n k : Managed) → n ≡ k → Leaves m k → Leaves m n
as_leaves m n k same leaves view reported =
    leaves (sym (ap (λ (z : Managed). z.view) same) ∙ view) (sym (ap (λ (z : Managed). z.reported) same) ∙ reported)

lock_leaves : (m : Managed) (w : Verdict) → Leaves m (on_lock m w)
lock_leaves m w view reported = grind (arith, view, reported)

start_leaves : (m : Managed) (w : Verdict) → Leaves m (on_start m w)
start_leaves m w view reported = grind (arith, view, reported)

halt_leaves : (drawn : ℕ) (m : Managed) (w : Verdict) → Leaves m (on_halt drawn m w)
halt_leaves drawn m w view reported = grind (arith, view, reported)

state_leaves : (m : Managed) (w : Verdict) → Leaves m (on_state m w)
state_leaves m w view reported = grind (arith, view, reported)

bind_leaves : (line : ℕ) (m : Managed) (w : Verdict) → Leaves m (on_bind line m w)
bind_leaves line m w view reported = grind (arith, view, reported)

broken_leaves : (m : Managed) (b : Bool) → Leaves m (if b then record m { view = view_broken m.view } else m)
broken_leaves m b view reported = grind (arith, view, reported)

-- ---- the pair

still : (plan : Plan) (h : History) (e : Event) (w : Verdict) (x : Site) → locks_it x e w ≡ false
    → Leaves (managed_view h x) (managed_view ((e, w) ∷ h) x) → HasReport plan h x → HasReport plan ((e, w) ∷ h) x
still plan h e w x none leaves has view reported =
    let was = leaves view reported in
    kept plan h e w x (not_accepted (around_at_site plan h x) x e w (interface_at plan h x) none) (has was.0 was.1)

refused_not : (view : View) (z : Verdict) → view ≡ Locked → carries (if_unlocked view z) 3 ≡ false
refused_not view z is = rw is refl

lock_turn : (plan : Plan) (h : History) (i : ℕ) (loss : Option Loss) (w : Verdict) (x : Site)
    → (i == x.number) ≡ true → w ≡ interface_due plan h x (ie.Lock i loss)
    → HasReport plan h x → HasReport plan ((event.Interface (ie.Lock i loss), w) ∷ h) x
lock_turn plan h i loss w x own due has view reported =
    let m = managed_own h (ie.Lock i loss) w x own in
    let was = as_leaves (managed_view h x) _ _ m (lock_leaves (managed_view h x) w) view reported in
    let none : carries w 3 ≡ false = ap (λ (z : Verdict). carries z 3) due ∙ refused_not (managed_view h x).view _ was.0
    in
    kept plan h (event.Interface (ie.Lock i loss)) w x
    (not_accepted (around_at_site plan h x) x (event.Interface (ie.Lock i loss)) w (interface_at plan h x)
    (not_carried (i == x.number) (carries w 3) none)) (has was.0 was.1)

own_turn : (plan : Plan) (h : History) (e : InterfaceEvent) (w : Verdict) (x : Site) → site_at plan x.number ≡ Some x
    → is_number (number_in e) x.number ≡ true → InterfaceCause plan ((event.Interface e, w) ∷ h) → HasReport plan h x
    → HasReport plan ((event.Interface e, w) ∷ h) x
own_turn plan h (ie.Lock i loss) w x at own cause has =
    lock_turn plan h i loss w x own (due_own plan h x (ie.Lock i loss) i w at refl own cause.0) has
own_turn plan h (ie.Report i loss) (v.Interface (iv.Reported n report)) x at own cause has = λ view reported.
    shown plan h i loss n report x at own cause
own_turn plan h (ie.Report i loss) (v.Interface w) x at own cause has =
    still plan h (event.Interface (ie.Report i loss)) (v.Interface w) x refl
    (same_leaves (managed_view h x) _ (managed_own h (ie.Report i loss) (v.Interface w) x own)) has
own_turn plan h (ie.Report i loss) w x at own cause has = still plan h (event.Interface (ie.Report i loss)) w x refl
    (same_leaves (managed_view h x) _ (managed_own h (ie.Report i loss) w x own)) has
own_turn plan h (ie.Start i loss) w x at own cause has = still plan h (event.Interface (ie.Start i loss)) w x refl
    (as_leaves (managed_view h x) _ _ (managed_own h (ie.Start i loss) w x own) (start_leaves (managed_view h x) w)) has
own_turn plan h (ie.Halt i loss) w x at own cause has =
    still plan h (event.Interface (ie.Halt i loss)) w x refl
    (as_leaves (managed_view h x) _ _ (managed_own h (ie.Halt i loss) w x own)
    (halt_leaves (draws h) (managed_view h x) w)) has
own_turn plan h (ie.State i loss) w x at own cause has = still plan h (event.Interface (ie.State i loss)) w x refl
    (as_leaves (managed_view h x) _ _ (managed_own h (ie.State i loss) w x own) (state_leaves (managed_view h x) w)) has
own_turn plan h (ie.Bind i line stream loss) w x at own cause has =
    still plan h (event.Interface (ie.Bind i line stream loss)) w x refl
    (as_leaves (managed_view h x) _ _ (managed_own h (ie.Bind i line stream loss) w x own)
    (bind_leaves line (managed_view h x) w)) has
own_turn plan h e w x at own cause has =
    still plan h (event.Interface e) w x refl (same_leaves (managed_view h x) _ (managed_own h e w x own)) has

turn : (plan : Plan) (h : History) (e : Event) (w : Verdict) (x : Site) → site_at plan x.number ≡ Some x
    → InterfaceCause plan ((e, w) ∷ h) → HasReport plan h x → HasReport plan ((e, w) ∷ h) x
turn plan h (event.Interface e) w x at cause has = elim (cases_Bool (is_number (number_in e) x.number)) [
  | inl own ↦ own_turn plan h e w x at own cause has
  | inr other ↦
      still plan h (event.Interface e) w x (other_not x e w other)
      (same_leaves (managed_view h x) _ (managed_other h e w x other)) has
]
turn plan h (event.Stop line stream loss) w x at cause has =
    still plan h (event.Stop line stream loss) w x refl
    (as_leaves (managed_view h x) _ _ (managed_step h (event.Stop line stream loss) w x)
    (broken_leaves (managed_view h x) (stop_breaks (op_of h) (draws h) x line stream w (managed_view h x)))) has
turn plan h (event.Reset link ends) (v.Reset l) x at cause has =
    still plan h (event.Reset link ends) (v.Reset l) x refl
    (as_leaves (managed_view h x) _ _ (managed_step h (event.Reset link ends) (v.Reset l) x)
    (broken_leaves (managed_view h x) (link == x.link))) has
turn plan h e w x at cause has = still plan h e w x refl (same_leaves (managed_view h x) _ (managed_step h e w x)) has

-- ---- RUN

-- a start whose request came to the device was asked after the report of a lock
asked_reported : (view : View) (b : Bool) (z w : Verdict) → w ≡ if_locked view (if_reported b z) → carries w 1 ≡ true
    → (view ≡ Locked) × (b ≡ true)
asked_reported Locked true z w is carried = (refl, refl)
asked_reported Locked false z w is carried = absurd (true≢false (sym carried ∙ ap (λ (u : Verdict). carries u 1) is))
asked_reported Unlocked b z w is carried = absurd (true≢false (sym carried ∙ ap (λ (u : Verdict). carries u 1) is))
asked_reported Running b z w is carried = absurd (true≢false (sym carried ∙ ap (λ (u : Verdict). carries u 1) is))
asked_reported Doubt b z w is carried = absurd (true≢false (sym carried ∙ ap (λ (u : Verdict). carries u 1) is))
asked_reported Broken b z w is carried = absurd (true≢false (sym carried ∙ ap (λ (u : Verdict). carries u 1) is))

had : (plan : Plan) (h : History) (e : Event) (w : Verdict) (x : Site) → site_at plan x.number ≡ Some x
    → InterfaceCause plan ((e, w) ∷ h) → HasReport plan h x → starts x e w ≡ true → IsReported plan h x
had plan h (event.Interface (ie.Start i loss)) w x at cause has is =
    let parts = and_parts (i == x.number) (carries w 1) is in
    let asked = asked_reported (managed_view h x).view (managed_view h x).reported _ w
    (due_own plan h x (ie.Start i loss) i w at refl parts.0 cause.0) parts.1 in
    has asked.0 asked.1
had plan h (event.Interface e) w x at cause has is = absurd (true≢false (sym is))
had plan h e w x at cause has is = absurd (true≢false (sym is))

ran_or_starts : (plan : Plan) (h : History) (e : Event) (w : Verdict) (x : Site) → runs_at plan ((e, w) ∷ h) x ≡ true
    → (runs_at plan h x ≡ true) ⊎ (starts x e w ≡ true)
ran_or_starts plan h e w x runs = by (cases_Bool (runs_at plan h x)) (cases_Bool (starts x e w))
  where
    by : (runs_at plan h x ≡ true) ⊎ (runs_at plan h x ≡ false) → (starts x e w ≡ true) ⊎ (starts x e w ≡ false)
        → (runs_at plan h x ≡ true) ⊎ (starts x e w ≡ true)
    by (inl ran) s = inl ran
    by (inr rests) (inl is) = inr is
    by (inr rests) (inr none) = absurd (true≢false (sym runs ∙ rests_on plan h e w x none rests))

-- ---- all pairs

pub record Reports (plan : Plan) (h : History) (x : Site) : Type 0 where
  pub managed : HasReport plan h x
  pub runs : runs_at plan h x ≡ true → IsReported plan h x

pub reported : (plan : Plan) (h : History) → InterfaceCause plan h → (x : Site) → site_at plan x.number ≡ Some x
    → Reports plan h x
unfolding devices managed_view
reported plan [] cause x at = record {
  managed = λ view is. absurd cc;
  runs = λ is. absurd (true≢false (sym is));
}
reported plan ((e, w) ∷ h) cause x at =
    let before = reported plan h cause.1 x at in
    record {
      managed = turn plan h e w x at cause before.managed;
      runs = λ is. kept plan h e w x (runs_unlocked plan h e w x is) (elim (ran_or_starts plan h e w x is) [
        | inl ran ↦ before.runs ran
        | inr start ↦ had plan h e w x at cause before.managed start
      ]);
    }
