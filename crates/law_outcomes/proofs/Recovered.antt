-- Each event of a recovery succeeds, by what the ones before it leave.
use Rattle.std.proofs.Common.{◌≡◌, ℕ, ◌<◌, ◌≤◌, ◌/◌, Bool, true, false, Option, Some, None, List, [], ◌∷◌, refl, ap}
use Rattle.std.proofs.Common.{sym, subst, ◌∙◌, arith, length, if◌then◌else◌, Ok, Err, ◌&&◌}
use Rattle.std.specs.Prelude.{is_some, not, nat_lt}
use Rattle.std.specs.Str.{bytes_eq}
use Rattle.std.proofs.lemmas.Slice.Eq.{bytes_eq-Decides}
use Rattle.spec_keys.proofs.Tests.{same-true, lt-false, true-lt}
use Rattle.spec_interfaces.specs.Devices.{around_at_site, interface_at, used_at, has_secure_stream, runs_at, is_run}
use Rattle.ide_types.specs.Lines.{is_link_line}
use Rattle.spec_keys.proofs.Terms.{SubKind, Up, Refreshing, is_live_draw, Establishing, KeyPlan, Side, Host, Device}
use Rattle.spec_keys.proofs.Terms.{Idle, KeyCauseLaw, history_status, op_of, draws}
use Rattle.spec_keys.specs.History.{history_slot, History, failed_there}
use Rattle.spec_keys.proofs.Fits.{place}
use Rattle.law_outcomes.proofs.Refreshing.{IsFree, refresh_begun, refresh_goes_to_end}
use Rattle.spec_keys.specs.Due.{may_establish, ports_at}
use Rattle.spec_interfaces.specs.Due.{host_status, AskedState, code_after, lock_due, start_due, report_due}
use Rattle.spec_interfaces.specs.Due.{lock_answer_at, asked_state}
use Rattle.interface_state.specs.Machine.{is_unlocked, error_code, nonce_answer, are_lock_flags, is_page, new_lock}
use Rattle.interface_state.specs.declared.error_codes.ErrorCode.TheVariants.{InvalidRequest, InvalidInterfaceState}
use Rattle.interface_state.specs.declared.error_codes.ErrorCode.TheVariants.{InvalidDeviceConfiguration}
use Rattle.law_outcomes.specs.Recovery.{recovery_verdicts, CanRecover, recovery, history_on, IsRecovered, rekeying}
use Rattle.law_outcomes.specs.Recovery.{IsRekeyed}
use Rattle.law_outcomes.proofs.Shown.{lock_shown, answer_drawn}
use Rattle.ide_types.specs.declared.status.StreamStatus.{StreamStatus}
use Rattle.spec_links.specs.Cause.{CauseLaw}
use Rattle.spec_links.specs.Plan.{key_plan, stream_plan}
unfoldable use Rattle.spec_links.specs.Due.{due}
unfoldable use Rattle.spec_keys.specs.Due.{key_due}
use Rattle.law_key_facts.proofs.Given.{key_cause}
use Rattle.law_mmio.proofs.Secure.{interface_leaves_secure}
use Rattle.spec_interfaces.specs.Terms.{Plan, Event, Verdict, DeviceTdi, Unlocked, Locked, Running, ConfigUnlocked}
use Rattle.spec_interfaces.specs.Terms.{ConfigLocked, planned_registers, lock_answer, Registers, kept_report}
use Rattle.spec_interfaces.specs.Terms.{LevelReset, interface_after_call, LockInterface, Lock, StartInterface}
use Rattle.spec_interfaces.specs.Sites.{Site, site_at, nonce_behind}
use Rattle.spec_interfaces.specs.Peers.{is_secure}
use Rattle.spec_interfaces.specs.Views.{Managed, managed_view, needs_at, view_at, needs_then, view_broken, stop_breaks}
unfoldable use Rattle.spec_interfaces.specs.Views.{stream_draw}
use Rattle.spec_interfaces.proofs.Views.{managed_step, managed_own}
use Rattle.spec_interfaces.proofs.Locks.{layout_at}
use Rattle.interface_state.specs.Bars.{bars_of, any_overlap}
use Rattle.ide_types.specs.Fits.{FitsPlan}
use Rattle.law_outcomes.proofs.Planned.{stream_planned, flags_planned, bars_planned}
use Rattle.law_outcomes.proofs.Apart.{planned_overlap}
use Rattle.law_outcomes.proofs.Keying.{stop_ends, establish_ends, establish_goes_to_end}
use Rattle.law_outcomes.proofs.AfterKeys.{idle_after_stop, draws_after_stop, draws_after_interface, idle_whole}
use Rattle.law_outcomes.proofs.AfterKeys.{secure_after_establish, draw_after_establish}
use Rattle.law_locks.proofs.TrueViews.{interface_own}
use Rattle.law_outcomes.proofs.AfterInterfaces.{due_at, unlocked_after_stop, unlocked_after_establish}
use Rattle.law_outcomes.proofs.AfterInterfaces.{same_used, needs_made}
use Rattle.ide_types.specs.declared.status.StreamStatus.TheVariants as status
use Rattle.script_events.specs.declared.event.Event.TheVariants as event
use Rattle.script_events.specs.declared.event.InterfaceEvent.TheVariants as ie
use Rattle.event_verdicts.specs.declared.verdict.Verdict.TheVariants as v
use Rattle.ide_types.specs.declared.verdict.InterfaceVerdict.TheVariants as iv

-- ---- streams

pub stop_due : (plan : Plan) (h : History) (line stream : ℕ) → is_some (stream_plan plan line stream) ≡ true
    → due plan h (event.Stop line stream None) ≡ v.Stopped line stream
unfolding due key_due
stop_due plan h line stream has = rw has (stop_ends (op_of h line stream) (draws h) (ports_at h) line stream)

pub establish_due : (plan : Plan) (h : History) → CauseLaw plan h → (line stream : ℕ)
    → is_some (stream_plan plan line stream) ≡ true → op_of h line stream ≡ Idle → draws h < length plan.pool / 6
    → due plan h (event.Establish line stream None) ≡ v.Established line stream (draws h)
unfolding due key_due
establish_due plan h cause line stream has idle left =
    rw has (establish_ends (key_plan plan) h (key_cause plan h cause) line stream idle left)

pub establish_again : (plan : Plan) (h : History) → CauseLaw plan h → (line stream j first : ℕ)
    → is_some (stream_plan plan line stream) ≡ true → op_of h line stream ≡ Establishing j first
    → due plan h (event.Establish line stream None) ≡ v.Established line stream j
unfolding due key_due
establish_again plan h cause line stream j first has is =
    rw has (establish_goes_to_end (key_plan plan) h (key_cause plan h cause) line stream j first is)

pub refresh_begins_due : (plan : Plan) (h : History) → CauseLaw plan h → (line stream : ℕ) (set : Bool) (j : ℕ)
    → is_link_line line ≡ true → is_some (stream_plan plan line stream) ≡ true → op_of h line stream ≡ Up set j
    → draws h < length plan.pool / 6 → history_status h Host line stream ≡ status.Secure
    → ((side : Side) (u : SubKind) → is_live_draw (history_slot h (place side line stream true u) (not set)) ≡ false)
    → due plan h (event.Refresh line stream None) ≡ v.Refreshed line stream (draws h)
unfolding due key_due
refresh_begins_due plan h cause line stream set j link has up left secure dead =
    rw (link, has) (refresh_begun (key_plan plan) h (key_cause plan h cause) line stream set j up left secure dead)

pub refresh_again_due : (plan : Plan) (h : History) → CauseLaw plan h → (line stream : ℕ) (set : Bool) (j first : ℕ)
    → is_link_line line ≡ true → is_some (stream_plan plan line stream) ≡ true
    → op_of h line stream ≡ Refreshing set j first
    → ((side : Side) (u : SubKind) → IsFree h set first side u line stream)
    → due plan h (event.Refresh line stream None) ≡ v.Refreshed line stream j
unfolding due key_due
refresh_again_due plan h cause line stream set j first link has up dead =
    rw (link, has) (refresh_goes_to_end (key_plan plan) h (key_cause plan h cause) line stream set j first up dead)

-- ---- operations on interfaces, by what stands

lock_given : (x : Site) (s : AskedState) (nonce : List ℕ) → s.managed.view ≡ Unlocked → s.host ≡ status.Secure
    → lock_answer_at s.around x s.tdi ≡ Ok nonce → lock_due x s None ≡ v.Interface (iv.Locked x.number nonce)
lock_given x s nonce view secure answer = rw (view, secure, answer) refl

lock_answered : (t : DeviceTdi) (flags offset : ℕ) (secure : Bool) (drawn : Option (List ℕ)) (nonce : List ℕ)
    → t.state ≡ ConfigUnlocked → are_lock_flags flags ≡ true → is_page offset ≡ true → secure ≡ true
    → any_overlap (bars_of t.plan t.registers) ≡ false → drawn ≡ Some nonce
    → lock_answer t flags offset secure drawn ≡ Ok nonce
lock_answered t flags offset secure drawn nonce state one two is apart next =
    rw (state, one, two, is, apart, next) refl

secure_true : (s : StreamStatus) → s ≡ status.Secure → is_secure s ≡ true
secure_true s is = rw is refl

pub true_secure : (s : StreamStatus) → is_secure s ≡ true → s ≡ status.Secure
true_secure s is = grind arith

-- a lock whose premises hold
pub lock_succeeds : (plan : Plan) (h : History) (x : Site) (nonce : List ℕ) → site_at plan x.number ≡ Some x
    → view_at h x ≡ Unlocked → (interface_at plan h x).state ≡ ConfigUnlocked → are_lock_flags x.plan.flags ≡ true
    → is_page x.plan.offset ≡ true
    → history_status h Host x.link x.plan.stream ≡ status.Secure
    → history_status h Device x.link x.plan.stream ≡ status.Secure
    → any_overlap (bars_of x.plan (interface_at plan h x).registers) ≡ false
    → nonce_behind plan x.link (used_at plan h x.link) ≡ Some nonce
    → due plan h (event.Interface (ie.Lock x.number None)) ≡ v.Interface (iv.Locked x.number nonce)
lock_succeeds plan h x nonce at view state flags offset at_host at_device apart next =
    due_at plan h x (ie.Lock x.number None) x.number refl at
    ∙ lock_given x (asked_state plan h x) nonce view at_host
    (lock_answered (interface_at plan h x) x.plan.flags x.plan.offset (has_secure_stream h x) _ nonce state flags offset
    (secure_true _ at_device)
    (ap (λ p. any_overlap (bars_of p (interface_at plan h x).registers)) (layout_at plan h x) ∙ apart) next)

-- ---- what stands after each event

-- the interface is in CONFIG_UNLOCKED, the view Unlocked, and so many draws were made, and nonces used
record IsHalted (plan : Plan) (h : History) (x : Site) (drawn used : ℕ) : Type 0 where
  view : view_at h x ≡ Unlocked
  state : (interface_at plan h x).state ≡ ConfigUnlocked
  made : draws h ≡ drawn
  nonces : used_at plan h x.link ≡ used

halted : (plan : Plan) (h : History) (x : Site) (needs : ℕ)
    → IsHalted plan ((event.Interface (ie.Halt x.number None), v.Interface (iv.Halted x.number needs)) ∷ h) x (draws h)
    (used_at plan h x.link)
halted plan h x needs =
    let w = v.Interface (iv.Halted x.number needs) in
    record {
      view = ap (λ (m : Managed). m.view) (managed_own h (ie.Halt x.number None) w x (same-true x.number));
      state = ap (λ (t : DeviceTdi). t.state) (interface_own plan h (ie.Halt x.number None) w x (same-true x.number));
      made = draws_after_interface h (ie.Halt x.number None) w;
      nonces = same_used plan h (event.Interface (ie.Halt x.number None)) w x.link refl;
    }

-- and its stream has no keys
record IsStopped (plan : Plan) (h : History) (x : Site) (drawn used : ℕ) : Type 0 where
  halted : IsHalted plan h x drawn used
  idle : op_of h x.link x.plan.stream ≡ Idle
  whole : (side : Side) → failed_there h side x.link x.plan.stream ≡ false

broken_unlocked : (b : Bool) (m : Managed) → m.view ≡ Unlocked
    → (if b then record m { view = view_broken m.view } else m).view ≡ Unlocked
broken_unlocked true m is = rw is refl
broken_unlocked false m is = is

stopped : (plan : Plan) (h : History) (x : Site) (drawn used : ℕ)
    → KeyCauseLaw (key_plan plan) ((event.Stop x.link x.plan.stream None, v.Stopped x.link x.plan.stream) ∷ h)
    → IsHalted plan h x drawn used
    → IsStopped plan ((event.Stop x.link x.plan.stream None, v.Stopped x.link x.plan.stream) ∷ h) x drawn used
stopped plan h x drawn used cause was =
    let e = event.Stop x.link x.plan.stream None in
    let w = v.Stopped x.link x.plan.stream in
    let idle = idle_after_stop h x.link x.plan.stream in
    record {
      halted = record {
        view = ap (λ (m : Managed). m.view) (managed_step h e w x)
            ∙ broken_unlocked (stop_breaks (op_of h) (draws h) x x.link x.plan.stream w (managed_view h x))
            (managed_view h x) was.view;
        state = unlocked_after_stop plan h x.link x.plan.stream None w x was.state;
        made = draws_after_stop h x.link x.plan.stream ∙ was.made;
        nonces = same_used plan h e w x.link refl ∙ was.nonces;
      };
      idle = idle;
      whole = λ side. idle_whole (key_plan plan) e w h cause side x.link x.plan.stream idle;
    }

-- its stream is Secure at both ends, under the next draw, which a start needs no more than
record IsKeyed (plan : Plan) (h : History) (x : Site) (drawn used : ℕ) : Type 0 where
  view : view_at h x ≡ Unlocked
  state : (interface_at plan h x).state ≡ ConfigUnlocked
  nonces : used_at plan h x.link ≡ used
  secure : (side : Side) → is_secure (history_status h side x.link x.plan.stream) ≡ true
  draw : stream_draw h x.link x.plan.stream ≡ drawn
  needs : needs_at h x ≤ drawn

keyed : (plan : Plan) (h : History) (x : Site) (drawn used : ℕ)
    → KeyCauseLaw (key_plan plan)
    ((event.Establish x.link x.plan.stream None, v.Established x.link x.plan.stream drawn) ∷ h)
    → IsStopped plan h x drawn used
    → IsKeyed plan ((event.Establish x.link x.plan.stream None, v.Established x.link x.plan.stream drawn) ∷ h) x drawn
    used
keyed plan h x drawn used cause was =
    let e = event.Establish x.link x.plan.stream None in
    let w = v.Established x.link x.plan.stream drawn in
    let same = managed_step h e w x in
    let most = needs_made h x in
    let made = was.halted.made in
    let needs : needs_at ((e, w) ∷ h) x ≡ needs_at h x = ap (λ (m : Managed). m.needs) same in
    record {
      view = ap (λ (m : Managed). m.view) same ∙ was.halted.view;
      state = unlocked_after_establish plan h x.link x.plan.stream None w x was.halted.state;
      nonces = same_used plan h e w x.link refl ∙ was.halted.nonces;
      secure = λ side. secure_true _
          (secure_after_establish (key_plan plan) h x.link x.plan.stream drawn cause side (was.whole side));
      draw = draw_after_establish h x.link x.plan.stream drawn None was.idle ∙ made;
      needs = omega (arith, needs, most, made);
    }

-- its registers are the topology's
record IsReset (plan : Plan) (h : History) (x : Site) (drawn used : ℕ) : Type 0 where
  keyed : IsKeyed plan h x drawn used
  registers : (interface_at plan h x).registers ≡ planned_registers x.plan

reset_code : (plan : Plan) (h : History) (x : Site) → site_at plan x.number ≡ Some x
    → (interface_at plan h x).state ≡ ConfigUnlocked
    → due plan h (event.Interface (ie.Flr x.number)) ≡ v.Interface (iv.Flr x.number 0)
reset_code plan h x at state =
    due_at plan h x (ie.Flr x.number) x.number refl at ∙ code_is (interface_at plan h x) state
  where
    code_is : (t : DeviceTdi) → t.state ≡ ConfigUnlocked
        → v.Interface (iv.Flr x.number (code_after t LevelReset)) ≡ v.Interface (iv.Flr x.number 0)
    code_is t is = rw is refl

unlocked_reset : (t : DeviceTdi) → t.state ≡ ConfigUnlocked
    → (interface_after_call t LevelReset).state ≡ ConfigUnlocked
unlocked_reset t is = rw is refl

reset : (plan : Plan) (h : History) (x : Site) (drawn used : ℕ)
    → v.Interface (iv.Flr x.number 0) ≡ due plan h (event.Interface (ie.Flr x.number)) → IsKeyed plan h x drawn used
    → IsReset plan ((event.Interface (ie.Flr x.number), v.Interface (iv.Flr x.number 0)) ∷ h) x drawn used
unfolding stream_draw
reset plan h x drawn used cause was =
    let e = ie.Flr x.number in
    let w = v.Interface (iv.Flr x.number 0) in
    let same = managed_own h e w x (same-true x.number) in
    let device = interface_own plan h e w x (same-true x.number) in
    let needs : needs_at ((event.Interface e, w) ∷ h) x ≡ needs_at h x = ap (λ (m : Managed). m.needs) same in
    let less = was.needs in
    record {
      keyed = record {
        view = ap (λ (m : Managed). m.view) same ∙ was.view;
        state = ap (λ (t : DeviceTdi). t.state) device ∙ unlocked_reset (interface_at plan h x) was.state;
        nonces = same_used plan h (event.Interface e) w x.link refl ∙ was.nonces;
        secure = λ side. interface_leaves_secure plan h e w side x.link x.plan.stream cause (was.secure side);
        draw = was.draw;
        needs = omega (arith, needs, less);
      };
      registers = ap (λ (t : DeviceTdi). t.registers) device
          ∙ ap (λ p. planned_registers p) (layout_at plan h x);
    }

-- ---- locked, reported, started

-- the interface is in CONFIG_LOCKED under this lock, whose nonce the manager has
record IsLockedAs (plan : Plan) (h : History) (x : Site) (drawn : ℕ) (lock : Lock) (nonce : List ℕ) : Type 0 where
  view : view_at h x ≡ Locked
  held : (managed_view h x).nonce ≡ nonce
  state : (interface_at plan h x).state ≡ ConfigLocked lock nonce
  secure : is_secure (history_status h Host x.link x.plan.stream) ≡ true
  draw : stream_draw h x.link x.plan.stream ≡ drawn
  needs : needs_at h x ≤ drawn

-- what it keeps
abbrev lock_made : Site → Lock
lock_made x = record {
  flags = x.plan.flags;
  stream = x.plan.stream;
  offset = x.plan.offset;
  registers = planned_registers x.plan;
}

lock_state : (t : DeviceTdi) (flags stream offset : ℕ) (secure : Bool) (drawn : Option (List ℕ)) (nonce : List ℕ)
    → lock_answer t flags offset secure drawn ≡ Ok nonce
    → (interface_after_call t (LockInterface flags stream offset secure drawn)).state
    ≡ ConfigLocked (new_lock t flags stream offset) nonce
lock_state t flags stream offset secure drawn nonce answer = rw answer refl

locked : (plan : Plan) (h : History) (x : Site) (drawn used : ℕ) (nonce : List ℕ)
    → v.Interface (iv.Locked x.number nonce) ≡ due plan h (event.Interface (ie.Lock x.number None))
    → IsReset plan h x drawn used
    → lock_answer (interface_at plan h x) x.plan.flags x.plan.offset (has_secure_stream h x)
    (nonce_behind plan x.link (used_at plan h x.link)) ≡ Ok nonce
    → IsLockedAs plan
    ((event.Interface (ie.Lock x.number None), v.Interface (iv.Locked x.number nonce)) ∷ h) x drawn (lock_made x) nonce
unfolding stream_draw
locked plan h x drawn used nonce cause was answer =
    let e = ie.Lock x.number None in
    let w = v.Interface (iv.Locked x.number nonce) in
    let same = managed_own h e w x (same-true x.number) in
    let device = interface_own plan h e w x (same-true x.number) in
    let needs : needs_at ((event.Interface e, w) ∷ h) x ≡ needs_at h x = ap (λ (m : Managed). m.needs) same in
    let less = was.keyed.needs in
    record {
      view = ap (λ (m : Managed). m.view) same;
      held = ap (λ (m : Managed). m.nonce) same;
      state = ap (λ (t : DeviceTdi). t.state) device
          ∙ (lock_state (interface_at plan h x) x.plan.flags x.plan.stream x.plan.offset (has_secure_stream h x) _
          nonce answer
          ∙ ap (λ (r : Registers). ConfigLocked (record {
            flags = x.plan.flags;
            stream = x.plan.stream;
            offset = x.plan.offset;
            registers = r;
          }) nonce) was.registers);
      secure = interface_leaves_secure plan h e w Host x.link x.plan.stream cause (was.keyed.secure Host);
      draw = was.keyed.draw;
      needs = omega (arith, needs, less);
    }

report_given : (plan : Plan) (x : Site) (s : AskedState) (lock : Lock) (nonce : List ℕ) → s.managed.view ≡ Locked
    → s.tdi.state ≡ ConfigLocked lock nonce
    → report_due plan x s None ≡ v.Interface (iv.Reported x.number (kept_report x.plan lock))
report_given plan x s lock nonce view state = rw (view, state) refl

report_succeeds : (plan : Plan) (h : History) (x : Site) (drawn : ℕ) (lock : Lock) (nonce : List ℕ)
    → site_at plan x.number ≡ Some x → IsLockedAs plan h x drawn lock nonce
    → due plan h (event.Interface (ie.Report x.number None))
    ≡ v.Interface (iv.Reported x.number (kept_report x.plan lock))
report_succeeds plan h x drawn lock nonce at was =
    due_at plan h x (ie.Report x.number None) x.number refl at
    ∙ report_given plan x (asked_state plan h x) lock nonce was.view was.state

-- and its report was shown
record IsReadyAs (plan : Plan) (h : History) (x : Site) (drawn : ℕ) (lock : Lock) (nonce : List ℕ) : Type 0 where
  locked : IsLockedAs plan h x drawn lock nonce
  reported : (managed_view h x).reported ≡ true

reported : (plan : Plan) (h : History) (x : Site) (drawn : ℕ) (lock : Lock) (nonce bytes : List ℕ)
    → v.Interface (iv.Reported x.number bytes) ≡ due plan h (event.Interface (ie.Report x.number None))
    → IsLockedAs plan h x drawn lock nonce
    → IsReadyAs plan ((event.Interface (ie.Report x.number None), v.Interface (iv.Reported x.number bytes)) ∷ h) x drawn
    lock nonce
unfolding stream_draw
reported plan h x drawn lock nonce bytes cause was =
    let e = ie.Report x.number None in
    let w = v.Interface (iv.Reported x.number bytes) in
    let same = managed_own h e w x (same-true x.number) in
    let device = interface_own plan h e w x (same-true x.number) in
    let needs : needs_at ((event.Interface e, w) ∷ h) x ≡ needs_at h x = ap (λ (m : Managed). m.needs) same in
    let less = was.needs in
    record {
      locked = record {
        view = ap (λ (m : Managed). m.view) same ∙ was.view;
        held = ap (λ (m : Managed). m.nonce) same ∙ was.held;
        state = ap (λ (t : DeviceTdi). t.state) device ∙ was.state;
        secure = interface_leaves_secure plan h e w Host x.link x.plan.stream cause was.secure;
        draw = was.draw;
        needs = omega (arith, needs, less);
      };
      reported = ap (λ (m : Managed). m.reported) same;
    }

pub same_bytes : (bs : List ℕ) → bytes_eq bs bs ≡ true
same_bytes bs = (bytes_eq-Decides bs bs).1 refl

start_given : (x : Site) (s : AskedState) (lock : Lock) (nonce : List ℕ) → s.managed.view ≡ Locked
    → s.managed.reported ≡ true → s.host ≡ status.Secure → s.managed.needs ≤ s.draw
    → s.managed.nonce ≡ nonce → s.tdi.state ≡ ConfigLocked lock nonce
    → start_due x s None ≡ v.Interface (iv.Started x.number s.draw)
start_given x s lock nonce view reported secure fresh held state =
    rw (view, reported, secure, lt-false s.draw s.managed.needs fresh, held, state, same_bytes nonce) refl

start_succeeds : (plan : Plan) (h : History) (x : Site) (drawn : ℕ) (lock : Lock) (nonce : List ℕ)
    → site_at plan x.number ≡ Some x → IsReadyAs plan h x drawn lock nonce
    → due plan h (event.Interface (ie.Start x.number None)) ≡ v.Interface (iv.Started x.number drawn)
start_succeeds plan h x drawn lock nonce at was =
    let draw = was.locked.draw in
    let less = was.locked.needs in
    due_at plan h x (ie.Start x.number None) x.number refl at
    ∙ start_given x (asked_state plan h x) lock nonce was.locked.view was.reported
    (true_secure _ was.locked.secure) (omega (arith, draw, less)) was.locked.held was.locked.state
    ∙ ap (λ (j : ℕ). v.Interface (iv.Started x.number j)) draw

starts_run : (t : DeviceTdi) (lock : Lock) (held nonce : List ℕ) → t.state ≡ ConfigLocked lock nonce → held ≡ nonce
    → is_run (interface_after_call t (StartInterface held)).state ≡ true
starts_run t lock held nonce state same = rw (state, same, same_bytes nonce) refl

runs_after_start : (plan : Plan) (h : History) (x : Site) (drawn draw : ℕ) (lock : Lock) (nonce : List ℕ)
    → IsReadyAs plan h x drawn lock nonce
    → runs_at plan ((event.Interface (ie.Start x.number None), v.Interface (iv.Started x.number draw)) ∷ h) x ≡ true
runs_after_start plan h x drawn draw lock nonce was =
    ap (λ (t : DeviceTdi). is_run t.state)
    (interface_own plan h (ie.Start x.number None) (v.Interface (iv.Started x.number draw)) x (same-true x.number))
    ∙ starts_run (interface_at plan h x) lock (managed_view h x).nonce nonce was.locked.state was.locked.held

pub halt_succeeds : (plan : Plan) (h : History) (x : Site) → site_at plan x.number ≡ Some x
    → due plan h (event.Interface (ie.Halt x.number None))
    ≡ v.Interface (iv.Halted x.number (needs_then (managed_view h x) (draws h)))
halt_succeeds plan h x at = due_at plan h x (ie.Halt x.number None) x.number refl at

-- ---- all of them

-- the events fix the verdicts
cause_under : (plan : Plan) (h : History) (es : List Event) (ws : List Verdict) → CauseLaw plan (history_on h es ws)
    → CauseLaw plan h
cause_under plan h [] ws cause = cause
cause_under plan h (e ∷ es) [] cause = cause
cause_under plan h (e ∷ es) (w ∷ ws) cause = (cause_under plan ((e, w) ∷ h) es ws cause).1

same_verdicts : (plan : Plan) (h : History) (es : List Event) (ws vs : List Verdict) → length ws ≡ length es
    → length vs ≡ length es → CauseLaw plan (history_on h es ws) → CauseLaw plan (history_on h es vs) → ws ≡ vs
same_verdicts plan h [] [] [] one two c k = refl
same_verdicts plan h [] (w ∷ ws) vs one two c k = absurd (omega arith)
same_verdicts plan h [] ws (w ∷ vs) one two c k = absurd (omega arith)
same_verdicts plan h (e ∷ es) [] vs one two c k = absurd (omega arith)
same_verdicts plan h (e ∷ es) ws [] one two c k = absurd (omega arith)
same_verdicts plan h (e ∷ es) (w ∷ ws) (u ∷ vs) one two c k =
    let first : w ≡ u = (cause_under plan ((e, w) ∷ h) es ws c).0 ∙ sym (cause_under plan ((e, u) ∷ h) es vs k).0 in
    let rest = same_verdicts plan ((e, u) ∷ h) es ws vs (omega arith) (omega arith)
    (subst (λ (z : Verdict). CauseLaw plan (history_on ((e, z) ∷ h) es ws)) first c) k in
    (λ i. first i ∷ rest i)

-- what the verdicts of a recovery are
abbrev verdicts_of : History → Site → List ℕ → List Verdict
verdicts_of h x nonce =
    v.Interface (iv.Halted x.number (needs_then (managed_view h x) (draws h))) ∷ v.Stopped x.link x.plan.stream
    ∷ v.Established x.link x.plan.stream (draws h) ∷ v.Interface (iv.Flr x.number 0)
    ∷ v.Interface (iv.Locked x.number nonce)
    ∷ v.Interface (iv.Reported x.number (kept_report x.plan (lock_made x)))
    ∷ v.Interface (iv.Started x.number (draws h)) ∷ []

record Follows (plan : Plan) (h : History) (x : Site) (nonce : List ℕ) : Type 0 where
  cause : CauseLaw plan (history_on h (recovery x) (verdicts_of h x nonce))
  runs : runs_at plan (history_on h (recovery x) (verdicts_of h x nonce)) x ≡ true
  view : view_at (history_on h (recovery x) (verdicts_of h x nonce)) x ≡ Running

follows : (plan : Plan) (h : History) → CauseLaw plan h → (x : Site) (can : CanRecover plan h x)
    → site_at plan x.number ≡ Some x → is_some (stream_plan plan x.link x.plan.stream) ≡ true
    → are_lock_flags x.plan.flags ≡ true → is_page x.plan.offset ≡ true → length x.plan.bars ≤ 6
    → Follows plan h x can.nonce
follows plan h cause x can at has flags offset few =
    let l = x.link in
    let s = x.plan.stream in
    let n = x.number in
    let drawn = draws h in
    let used = used_at plan h x.link in
    let needs = needs_then (managed_view h x) (draws h) in
    let h1 : History = (event.Interface (ie.Halt n None), v.Interface (iv.Halted n needs)) ∷ h in
    let c1 : CauseLaw plan h1 = (sym (halt_succeeds plan h x at), cause) in
    let s1 = halted plan h x needs in
    let h2 : History = (event.Stop l s None, v.Stopped l s) ∷ h1 in
    let c2 : CauseLaw plan h2 = (sym (stop_due plan h1 l s has), c1) in
    let s2 = stopped plan h1 x drawn used (key_cause plan h2 c2) s1 in
    let made = s2.halted.made in
    let left = can.draw in
    let due3 = establish_due plan h2 c2 l s has s2.idle (omega (arith, made, left))
    ∙ ap (λ (j : ℕ). v.Established l s j) made in
    let h3 : History = (event.Establish l s None, v.Established l s drawn) ∷ h2 in
    let c3 : CauseLaw plan h3 = (sym due3, c2) in
    let s3 = keyed plan h2 x drawn used (key_cause plan h3 c3) s2 in
    let due4 = reset_code plan h3 x at s3.state in
    let h4 : History = (event.Interface (ie.Flr n), v.Interface (iv.Flr n 0)) ∷ h3 in
    let c4 : CauseLaw plan h4 = (sym due4, c3) in
    let s4 = reset plan h3 x drawn used (sym due4) s3 in
    let apart = ap (λ (r : Registers). any_overlap (bars_of x.plan r)) s4.registers
    ∙ (planned_overlap x.plan few ∙ can.apart) in
    let next = ap (λ (k : ℕ). nonce_behind plan x.link k) s4.keyed.nonces ∙ can.next in
    let answer = lock_answered (interface_at plan h4 x) x.plan.flags x.plan.offset (has_secure_stream h4 x)
    (nonce_behind plan x.link (used_at plan h4 x.link)) can.nonce s4.keyed.state flags offset (s4.keyed.secure Device)
    (ap (λ p. any_overlap (bars_of p (interface_at plan h4 x).registers)) (layout_at plan h4 x) ∙ apart) next in
    let due5 = lock_succeeds plan h4 x can.nonce at s4.keyed.view s4.keyed.state flags offset
    (true_secure _ (s4.keyed.secure Host)) (true_secure _ (s4.keyed.secure Device)) apart next in
    let h5 : History = (event.Interface (ie.Lock n None), v.Interface (iv.Locked n can.nonce)) ∷ h4 in
    let c5 : CauseLaw plan h5 = (sym due5, c4) in
    let s5 = locked plan h4 x drawn used can.nonce (sym due5) s4 answer in
    let due6 = report_succeeds plan h5 x drawn (lock_made x) can.nonce at s5 in
    let bytes = kept_report x.plan (lock_made x) in
    let h6 : History = (event.Interface (ie.Report n None), v.Interface (iv.Reported n bytes)) ∷ h5 in
    let c6 : CauseLaw plan h6 = (sym due6, c5) in
    let s6 = reported plan h5 x drawn (lock_made x) can.nonce bytes (sym due6) s5 in
    let due7 = start_succeeds plan h6 x drawn (lock_made x) can.nonce at s6 in
    record {
      cause = (sym due7, c6);
      runs = runs_after_start plan h6 x drawn drawn (lock_made x) can.nonce s6;
      view = ap (λ (m : Managed). m.view)
          (managed_own h6 (ie.Start n None) (v.Interface (iv.Started n drawn)) x (same-true n));
    }

pub recovered : (plan : Plan) → FitsPlan plan → (h : History) (x : Site) (can : CanRecover plan h x)
    (ws : List Verdict) → site_at plan x.number ≡ Some x → length ws ≡ 7
    → CauseLaw plan (history_on h (recovery x) ws) → IsRecovered plan h x can.nonce ws
recovered plan fits h x can ws at seven cause =
    let lock = flags_planned plan fits x.number x at in
    let all = follows plan h (cause_under plan h (recovery x) ws cause) x can at
    (stream_planned plan fits x.number x at) lock.0 lock.1 (bars_planned plan fits x.number x at) in
    let same = same_verdicts plan h (recovery x) ws (verdicts_of h x can.nonce) seven refl cause all.cause in
    record {
      needs = needs_then (managed_view h x) (draws h);
      verdicts = same;
      runs = ap (λ (us : List Verdict). runs_at plan (history_on h (recovery x) us) x) same ∙ all.runs;
      view = ap (λ (us : List Verdict). view_at (history_on h (recovery x) us) x) same ∙ all.view;
    }

-- ---- what it takes

lock_apart : (t : DeviceTdi) (flags offset : ℕ) (secure : Bool) (drawn : Option (List ℕ)) (nonce : List ℕ)
    → lock_answer t flags offset secure drawn ≡ Ok nonce → any_overlap (bars_of t.plan t.registers) ≡ false
lock_apart t flags offset secure drawn nonce is =
    by (not (is_unlocked t.state)) (not (are_lock_flags flags && is_page offset)) secure
    (any_overlap (bars_of t.plan t.registers)) is
  where
    by : (a b c overlaps : Bool)
        → (if a then Err (error_code InvalidInterfaceState)
        else if b then Err (error_code InvalidRequest)
        else if not (c && not overlaps) then Err (error_code InvalidDeviceConfiguration)
        else nonce_answer drawn) ≡ Ok nonce → overlaps ≡ false
    by true b c overlaps is = absurd cc
    by false true c overlaps is = absurd cc
    by false false false overlaps is = absurd cc
    by false false true true is = absurd cc
    by false false true false is = refl

-- an establish of a stream without keys takes a draw
pool_has : (plan : KeyPlan) (has : Bool) (line stream next l s j : ℕ) (w : Verdict)
    → v.Established l s j ≡ (if has then may_establish plan line next Idle w else v.Nothing) → next < plan.pool
pool_has plan true line stream next l s j w is = by (nat_lt next plan.pool) refl is
  where
    by : (b : Bool) → nat_lt next plan.pool ≡ b → v.Established l s j ≡ (if b then w else v.RefusedPoolEmpty next)
        → next < plan.pool
    by true less is = true-lt next plan.pool less
    by false less is = absurd cc
pool_has plan false line stream next l s j w is = absurd cc

establish_takes_draw : (plan : Plan) (h : History) (line stream l s j : ℕ) → op_of h line stream ≡ Idle
    → v.Established l s j ≡ due plan h (event.Establish line stream None) → draws h < length plan.pool / 6
unfolding due key_due
establish_takes_draw plan h line stream l s j idle is =
    pool_has (key_plan plan) (is_some (stream_plan plan line stream)) line stream (draws h) l s j _ (rw idle at is)

pub recovery_takes : (plan : Plan) → FitsPlan plan → (h : History) (x : Site) (needs draw : ℕ) (nonce : List ℕ)
    → site_at plan x.number ≡ Some x
    → CauseLaw plan (history_on h (recovery x) (recovery_verdicts x needs draw nonce)) → CanRecover plan h x
recovery_takes plan fits h x needs draw nonce at cause =
    let l = x.link in
    let s = x.plan.stream in
    let n = x.number in
    let w1 = v.Interface (iv.Halted n needs) in
    let h1 : History = (event.Interface (ie.Halt n None), w1) ∷ h in
    let h2 : History = (event.Stop l s None, v.Stopped l s) ∷ h1 in
    let h3 : History = (event.Establish l s None, v.Established l s draw) ∷ h2 in
    let h4 : History = (event.Interface (ie.Flr n), v.Interface (iv.Flr n 0)) ∷ h3 in
    let c5 = cause.1.1 in
    let c3 = c5.1.1 in
    let made : draws h2 ≡ draws h = draws_after_stop h1 l s ∙ draws_after_interface h (ie.Halt n None) w1 in
    let left = establish_takes_draw plan h2 l s l s draw (idle_after_stop h1 l s) c3.0 in
    let answer = lock_answer_at (around_at_site plan h4 x) x (interface_at plan h4 x) in
    let given = lock_shown x (view_at h4 x) (host_status h4 x) None answer n nonce
    (c5.0 ∙ due_at plan h4 x (ie.Lock n None) n refl at) in
    let next = answer_drawn (interface_at plan h4 x) x.plan.flags x.plan.offset (has_secure_stream h4 x)
    (nonce_behind plan l (used_at plan h4 l)) nonce given.1 in
    let apart = lock_apart (interface_at plan h4 x) x.plan.flags x.plan.offset (has_secure_stream h4 x)
    (nonce_behind plan l (used_at plan h4 l)) nonce given.1 in
    let device = interface_own plan h3 (ie.Flr n) (v.Interface (iv.Flr n 0)) x (same-true n) in
    let registers : (interface_at plan h4 x).registers ≡ planned_registers x.plan =
    ap (λ (t : DeviceTdi). t.registers) device ∙ ap (λ p. planned_registers p) (layout_at plan h3 x) in
    let layout = layout_at plan h4 x in
    let used : used_at plan h4 l ≡ used_at plan h l =
    same_used plan h3 (event.Interface (ie.Flr n)) (v.Interface (iv.Flr n 0)) l refl
    ∙ (same_used plan h2 (event.Establish l s None) (v.Established l s draw) l refl
    ∙ (same_used plan h1 (event.Stop l s None) (v.Stopped l s) l refl
    ∙ same_used plan h (event.Interface (ie.Halt n None)) w1 l refl)) in
    record {
      draw = omega (arith, made, left);
      nonce = nonce;
      next = ap (λ (k : ℕ). nonce_behind plan l k) (sym used) ∙ next;
      apart = sym (planned_overlap x.plan (bars_planned plan fits n x at))
          ∙ ((λ i. any_overlap (bars_of (sym layout i) (sym registers i))) ∙ apart);
    }

-- ---- a stream alone

record FollowsStream (plan : Plan) (h : History) (line stream : ℕ) (ws : List Verdict) : Type 0 where
  cause : CauseLaw plan (history_on h (rekeying line stream) ws)
  secure : (side : Side) → history_status (history_on h (rekeying line stream) ws) side line stream ≡ status.Secure

follows_stream : (plan : Plan) (h : History) → CauseLaw plan h → (line stream : ℕ)
    → is_some (stream_plan plan line stream) ≡ true → draws h < length plan.pool / 6
    → FollowsStream plan h line stream (v.Stopped line stream ∷ v.Established line stream (draws h) ∷ [])
follows_stream plan h cause line stream has left =
    let stop = event.Stop line stream None in
    let h1 : History = (stop, v.Stopped line stream) ∷ h in
    let c1 : CauseLaw plan h1 = (sym (stop_due plan h line stream has), cause) in
    let made = draws_after_stop h line stream in
    let idle = idle_after_stop h line stream in
    let due2 = establish_due plan h1 c1 line stream has idle (omega (arith, made, left))
    ∙ ap (λ (j : ℕ). v.Established line stream j) made in
    let h2 : History = (event.Establish line stream None, v.Established line stream (draws h)) ∷ h1 in
    let c2 : CauseLaw plan h2 = (sym due2, c1) in
    record {
      cause = c2;
      secure = λ side. secure_after_establish (key_plan plan) h1 line stream (draws h) (key_cause plan h2 c2) side
          (idle_whole (key_plan plan) stop (v.Stopped line stream) h (key_cause plan h1 c1) side line stream idle);
    }

pub rekeyed : (plan : Plan) (h : History) (line stream : ℕ) (ws : List Verdict)
    → is_some (stream_plan plan line stream) ≡ true → draws h < length plan.pool / 6 → length ws ≡ 2
    → CauseLaw plan (history_on h (rekeying line stream) ws) → IsRekeyed plan h line stream ws
rekeyed plan h line stream ws has left two cause =
    let es = rekeying line stream in
    let vs = v.Stopped line stream ∷ v.Established line stream (draws h) ∷ [] in
    let all = follows_stream plan h (cause_under plan h es ws cause) line stream has left in
    let same = same_verdicts plan h es ws vs two refl cause all.cause in
    record {
      verdicts = same;
      secure = λ side. ap (λ (us : List Verdict). history_status (history_on h es us) side line stream) same
          ∙ all.secure side;
    }
