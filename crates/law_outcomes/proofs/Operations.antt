-- Operations of which no message is lost, and whose premises hold, succeed.
use Rattle.std.proofs.Common.{◌≡◌, ◌≢◌, ℕ, ◌≤◌, true, Some, None, List, ◌∷◌, refl, ap, sym, subst, ◌∙◌, arith}
use Rattle.ide_types.specs.Fits.{FitsPlan}
use Rattle.spec_keys.proofs.Tests.{same-true, lt-false}
use Rattle.spec_links.specs.Cause.{CauseLaw}
use Rattle.spec_interfaces.specs.Terms.{Plan, History, Event, Verdict, View, Unlocked, Locked, TdiState, ConfigUnlocked}
use Rattle.spec_interfaces.specs.Terms.{ConfigLocked, Run, Error, state_code, start_answer, Lock, draws, lock_of}
use Rattle.spec_interfaces.specs.Terms.{kept_report, op_of, Running, Doubt, Broken}
use Rattle.spec_interfaces.specs.Sites.{Site, site_at}
use Rattle.spec_interfaces.specs.Views.{Managed, managed_view, needs_at, needs_then, on_halt, view_at}
use Rattle.spec_interfaces.specs.Devices.{interface_at}
use Rattle.spec_interfaces.specs.Due.{AskedState, asked_state, start_due, started_as, report_due, if_locked_or_running}
use Rattle.spec_links.specs.Due.{due}
use Rattle.spec_interfaces.proofs.Views.{managed_own}
use Rattle.spec_interfaces.proofs.Floors.{number_at}
use Rattle.law_locks.proofs.TrueViews.{true_views}
use Rattle.law_locks.specs.Locks.{IsTrueOf}
use Rattle.law_memory.proofs.Causes.{interface_cause}
use Rattle.std.specs.Prelude.{is_some}
use Rattle.spec_links.specs.Plan.{stream_plan}
use Rattle.spec_keys.specs.Operations.{StreamStage, Idle, Establishing, Up, Refreshing, Stopping}
use Rattle.ide_types.specs.Lines.{is_link_line}
use Rattle.law_outcomes.proofs.Recovered.{refresh_begins_due, refresh_again_due, stop_due, establish_due}
use Rattle.law_outcomes.proofs.Recovered.{establish_again, lock_succeeds, same_bytes}
use Rattle.law_outcomes.specs.Operations.{Refreshes, Establishes, is_locked_or_running, Succeeds, MayLock, MayStart}
use Rattle.law_outcomes.specs.Operations.{StartsLocked}
use Rattle.law_outcomes.proofs.Planned.{flags_planned}
use Rattle.law_outcomes.proofs.Nonces.{nonce_held}
use Rattle.law_outcomes.proofs.AfterInterfaces.{due_at}
use Rattle.law_locks.proofs.AllLaws.{own_number}
use Rattle.ide_types.specs.declared.status.StreamStatus.TheVariants as status
use Rattle.script_events.specs.declared.event.Event.TheVariants as event
use Rattle.script_events.specs.declared.event.InterfaceEvent.TheVariants as ie
use Rattle.event_verdicts.specs.declared.verdict.Verdict.TheVariants as v
use Rattle.ide_types.specs.declared.verdict.InterfaceVerdict.TheVariants as iv

unlocked_is : (s : TdiState) → state_code s ≡ 0 → s ≡ ConfigUnlocked
unlocked_is s is = grind arith

-- ---- a start

started_by : (x : Site) (s : AskedState) → s.managed.view ≡ Locked → s.managed.reported ≡ true
    → s.host ≡ status.Secure → s.managed.needs ≤ s.draw
    → (((lock : Lock) (held : List ℕ) → s.tdi.state ≡ ConfigLocked lock held → held ≡ s.managed.nonce))
    → (state_code s.tdi.state ≡ 1 → start_due x s None ≡ v.Interface (iv.Started x.number s.draw))
    × (state_code s.tdi.state ≢ 1 → start_due x s None ≡ v.RefusedDevice 1 4)
started_by x s view reported secure fresh held =
    rw (view, reported, secure, lt-false s.draw s.managed.needs fresh) (by s.tdi.state held)
  where
    locked_code : (lock : Lock) (bytes : List ℕ) → bytes ≡ s.managed.nonce
        → started_as x s.draw (start_answer (ConfigLocked lock bytes) s.managed.nonce)
        ≡ v.Interface (iv.Started x.number s.draw)
    locked_code lock bytes is = rw (is, same_bytes s.managed.nonce) refl

    by : (t : TdiState) → ((lock : Lock) (bytes : List ℕ) → t ≡ ConfigLocked lock bytes → bytes ≡ s.managed.nonce)
        → (state_code t ≡ 1
        → started_as x s.draw (start_answer t s.managed.nonce) ≡ v.Interface (iv.Started x.number s.draw))
        × (state_code t ≢ 1 → started_as x s.draw (start_answer t s.managed.nonce) ≡ v.RefusedDevice 1 4)
    by ConfigUnlocked has = (λ is. absurd (omega (arith, is)), λ other. refl)
    by (ConfigLocked lock bytes) has =
        (λ is. locked_code lock bytes (has lock bytes refl), λ other. absurd (other refl))
    by (Run lock) has = (λ is. absurd (omega (arith, is)), λ other. refl)
    by Error has = (λ is. absurd (omega (arith, is)), λ other. refl)

start_is : (plan : Plan) (h : History) (i : ℕ) (w : Verdict) → CauseLaw plan h → (x : Site) → site_at plan i ≡ Some x
    → w ≡ due plan h (event.Interface (ie.Start i None)) → MayStart h x → StartsLocked plan h x w
start_is plan h i w cause x at is may =
    let here = own_number plan i x at in
    let due = is ∙ due_at plan h x (ie.Start i None) i refl at in
    let both = started_by x (asked_state plan h x) may.view may.reported may.at_host may.fresh
    (λ lock held state. nonce_held plan h (interface_cause plan h cause) x here may.view lock held state) in
    record { locked = λ one. due ∙ both.0 one; not_locked = λ other. due ∙ both.1 other }

-- ---- a lock, and a halt

lock_is : (plan : Plan) → FitsPlan plan → (h : History) (i : ℕ) (w : Verdict) → CauseLaw plan h → (x : Site)
    (nonce : List ℕ) → site_at plan i ≡ Some x → w ≡ due plan h (event.Interface (ie.Lock i None))
    → MayLock plan h x nonce → w ≡ v.Interface (iv.Locked i nonce)
lock_is plan fits h i w cause x nonce at is may =
    let number = number_at plan i x at in
    let here = own_number plan i x at in
    let view : IsTrueOf Unlocked (interface_at plan h x).state =
    subst (λ (u : View). IsTrueOf u (interface_at plan h x).state) may.view
    (true_views plan h (interface_cause plan h cause) x here) in
    let allowed = flags_planned plan fits i x at in
    is ∙ ap (λ (n : ℕ). due plan h (event.Interface (ie.Lock n None))) (sym number)
    ∙ (lock_succeeds plan h x nonce here may.view (unlocked_is _ view) allowed.0 allowed.1 may.at_host may.at_device
    may.apart may.next ∙ ap (λ (n : ℕ). v.Interface (iv.Locked n nonce)) number)

halt_is : (plan : Plan) (h : History) (i : ℕ) (w : Verdict) (x : Site) → site_at plan i ≡ Some x
    → w ≡ due plan h (event.Interface (ie.Halt i None))
    → w ≡ v.Interface (iv.Halted i (needs_at ((event.Interface (ie.Halt i None), w) ∷ h) x))
halt_is plan h i w x at is =
    let number = number_at plan i x at in
    let halted : w ≡ v.Interface (iv.Halted x.number (needs_then (managed_view h x) (draws h))) =
    is ∙ due_at plan h x (ie.Halt i None) i refl at in
    let after = managed_own h (ie.Halt i None) w x (rw number (same-true i)) in
    let needs : needs_at ((event.Interface (ie.Halt i None), w) ∷ h) x ≡ needs_then (managed_view h x) (draws h) =
    ap (λ (m : Managed). m.needs) after
    ∙ ap (λ (u : Verdict). (on_halt (draws h) (managed_view h x) u).needs) halted in
    halted ∙ (λ k. v.Interface (iv.Halted (number k) (sym needs k)))

report_by : (plan : Plan) (x : Site) (s : AskedState) (lock : Lock) → is_locked_or_running s.managed.view ≡ true
    → lock_of s.tdi.state ≡ Some lock
    → report_due plan x s None ≡ v.Interface (iv.Reported x.number (kept_report x.plan lock))
report_by plan x s lock allowed stands = rw stands (by s.managed.view allowed)
  where
    by : (view : View) → is_locked_or_running view ≡ true
        → if_locked_or_running view (v.Interface (iv.Reported x.number (kept_report x.plan lock)))
        ≡ v.Interface (iv.Reported x.number (kept_report x.plan lock))
    by Locked is = refl
    by Running is = refl
    by Unlocked is = absurd cc
    by Doubt is = absurd cc
    by Broken is = absurd cc

report_is : (plan : Plan) (h : History) (i : ℕ) (w : Verdict) (x : Site) (lock : Lock) → site_at plan i ≡ Some x
    → w ≡ due plan h (event.Interface (ie.Report i None)) → is_locked_or_running (view_at h x) ≡ true
    → lock_of (interface_at plan h x).state ≡ Some lock → w ≡ v.Interface (iv.Reported i (kept_report x.plan lock))
report_is plan h i w x lock at is allowed stands =
    is ∙ due_at plan h x (ie.Report i None) i refl at ∙ (report_by plan x (asked_state plan h x) lock allowed stands
    ∙ ap (λ (n : ℕ). v.Interface (iv.Reported n (kept_report x.plan lock))) (number_at plan i x at))

-- ---- an establish

establish_is : (plan : Plan) (h : History) → CauseLaw plan h → (line stream draw : ℕ) (w : Verdict)
    → w ≡ due plan h (event.Establish line stream None) → is_some (stream_plan plan line stream) ≡ true
    → (q : StreamStage) → op_of h line stream ≡ q → Establishes plan h q draw → w ≡ v.Established line stream draw
establish_is plan h cause line stream draw w is has Idle at may =
    is ∙ (establish_due plan h cause line stream has at may.0 ∙ ap (λ (j : ℕ). v.Established line stream j) (sym may.1))
establish_is plan h cause line stream draw w is has (Establishing j first) at may =
    is ∙ (establish_again plan h cause line stream j first has at
    ∙ ap (λ (k : ℕ). v.Established line stream k) (sym may))
establish_is plan h cause line stream draw w is has (Up set j) at may = absurd may
establish_is plan h cause line stream draw w is has (Refreshing set j n) at may = absurd may
establish_is plan h cause line stream draw w is has (Stopping n) at may = absurd may

-- ---- a refresh

refresh_is : (plan : Plan) (h : History) → CauseLaw plan h → (line stream draw : ℕ) (w : Verdict)
    → w ≡ due plan h (event.Refresh line stream None) → is_link_line line ≡ true
    → is_some (stream_plan plan line stream) ≡ true → (q : StreamStage) → op_of h line stream ≡ q
    → Refreshes plan h line stream q draw → w ≡ v.Refreshed line stream draw
refresh_is plan h cause line stream draw w is link has (Up set j) at may =
    is ∙ (refresh_begins_due plan h cause line stream set j link has at may.0 may.2 may.3
    ∙ ap (λ (k : ℕ). v.Refreshed line stream k) (sym may.1))
refresh_is plan h cause line stream draw w is link has (Refreshing set j first) at may =
    is ∙ (refresh_again_due plan h cause line stream set j first link has at may.1
    ∙ ap (λ (k : ℕ). v.Refreshed line stream k) (sym may.0))
refresh_is plan h cause line stream draw w is link has Idle at may = absurd may
refresh_is plan h cause line stream draw w is link has (Establishing j n) at may = absurd may
refresh_is plan h cause line stream draw w is link has (Stopping n) at may = absurd may

-- ---- the pair

pub succeeds : (plan : Plan) → FitsPlan plan → (h : History) (e : Event) (w : Verdict) → CauseLaw plan ((e, w) ∷ h)
    → Succeeds plan h e w
succeeds plan fits h (event.Establish line stream None) w cause = λ draw has may.
    establish_is plan h cause.1 line stream draw w cause.0 has (op_of h line stream) refl may
succeeds plan fits h (event.Refresh line stream None) w cause = λ draw link has may.
    refresh_is plan h cause.1 line stream draw w cause.0 link has (op_of h line stream) refl may
succeeds plan fits h (event.Stop line stream None) w cause = λ has. cause.0 ∙ stop_due plan h line stream has
succeeds plan fits h (event.Interface (ie.Halt i None)) w cause = λ x at. halt_is plan h i w x at cause.0
succeeds plan fits h (event.Interface (ie.Lock i None)) w cause = λ x nonce at may.
    lock_is plan fits h i w cause.1 x nonce at cause.0 may
succeeds plan fits h (event.Interface (ie.Report i None)) w cause = λ x lock at allowed stands.
    report_is plan h i w x lock at cause.0 allowed stands
succeeds plan fits h (event.Interface (ie.Start i None)) w cause = λ x at may.
    start_is plan h i w cause.1 x at cause.0 may
succeeds plan fits h e w cause = tt
