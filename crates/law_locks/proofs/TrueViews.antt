-- What the manager's view says of the state of an interface.
use Rattle.std.proofs.Common.{◌≡◌, ℕ, ◌==◌, ◌&&◌, ◌||◌, ◌∷◌, ◌≤◌, Bool, true, false, not, List, [], Option, None, Some}
use Rattle.std.proofs.Common.{Result, Ok, Err, if◌then◌else◌, refl, sym, inl, inr, subst, arith}
use Rattle.std.proofs.lemmas.Bool.{cases_Bool, true≢false}
use Rattle.std.proofs.lemmas.Bool.Decides.{nat_tests}
use Rattle.std.specs.Prelude.{nat_le, nat_lt}
use Rattle.std.specs.Str.{bytes_eq}
use Rattle.spec_interfaces.specs.Terms.{Plan, StreamStatus, View, Unlocked, Locked, Running, Doubt, Broken, Event}
use Rattle.spec_interfaces.specs.Terms.{InterfaceEvent, Loss, Verdict, History, Lock, DeviceTdi, TdiState}
use Rattle.spec_interfaces.specs.Terms.{ConfigUnlocked, ConfigLocked, Run, Error, lock_answer, start_answer, op_of}
use Rattle.spec_interfaces.specs.Terms.{draws, lost_at, if_secure, Call, StartInterface, StopInterface, WriteRegister}
use Rattle.spec_interfaces.specs.Terms.{LevelReset, FirmwareUpdate, StreamLeft, BindStream, UnbindStream}
use Rattle.spec_interfaces.specs.Terms.{interface_after_call, bind_answer, unbind_answer}
use Rattle.spec_interfaces.specs.Sites.{Site, site_at}
use Rattle.spec_interfaces.specs.Exchanges.{carries, changes_device}
use Rattle.spec_interfaces.specs.Views.{Managed, on_lock, on_report, on_start, on_halt, on_state, on_bind, view_broken}
use Rattle.spec_interfaces.specs.Views.{view_told, on_operation, number_in, is_number, stop_breaks, view_at}
unfoldable use Rattle.spec_interfaces.specs.Views.{managed_view}
use Rattle.spec_interfaces.specs.Devices.{around_at_site, interface_if_called, lock_call, interface_asked, interface_at}
use Rattle.spec_interfaces.specs.Devices.{is_stream_left, reset_call}
unfoldable use Rattle.spec_interfaces.specs.Devices.{devices}
use Rattle.spec_interfaces.specs.Due.{unless_lost, if_unlocked, if_locked, if_reported, if_fresh, verdict_of_lock}
use Rattle.spec_interfaces.specs.Due.{started_as, host_status}
use Rattle.spec_interfaces.specs.Cause.{InterfaceCause}
use Rattle.spec_interfaces.proofs.Views.{managed_own, managed_other, due_own}
use Rattle.interface_state.specs.declared.error_codes.ErrorCode.TheVariants.{InvalidNonce}
use Rattle.interface_state.specs.Machine.{error_code, new_lock, interface_after_lock, after_start, after_failure}
use Rattle.interface_state.specs.Machine.{after_change}
use Rattle.interface_state.proofs.Bound.{bound_state, unbound_state}
use Rattle.law_locks.specs.Locks.{IsTrueOf}
use Rattle.script_events.specs.declared.event.Lost.{Lost}
use Rattle.script_events.specs.declared.event.Lost.TheVariants.{Request, Reply}
use Rattle.script_events.specs.declared.event.Event.TheVariants as event
use Rattle.script_events.specs.declared.event.InterfaceEvent.TheVariants as ie
use Rattle.ide_types.specs.declared.status.StreamStatus.TheVariants as status
use Rattle.event_verdicts.specs.declared.verdict.Verdict.TheVariants as v
use Rattle.ide_types.specs.declared.verdict.InterfaceVerdict.TheVariants as iv

-- ---- calls that leave the state or lead to ERROR

fails_true : (view : View) (s : TdiState) → IsTrueOf view s → IsTrueOf view (after_failure s)
fails_true Unlocked ConfigUnlocked is = refl
fails_true Unlocked (ConfigLocked lock nonce) is = absurd cc
fails_true Unlocked (Run lock) is = absurd cc
fails_true Unlocked Error is = absurd cc
fails_true Locked ConfigUnlocked (inl is) = absurd cc
fails_true Locked ConfigUnlocked (inr is) = absurd cc
fails_true Locked (ConfigLocked lock nonce) is = inr refl
fails_true Locked (Run lock) is = inr refl
fails_true Locked Error is = inr refl
fails_true Running ConfigUnlocked (inl is) = absurd cc
fails_true Running ConfigUnlocked (inr is) = absurd cc
fails_true Running (ConfigLocked lock nonce) is = inr refl
fails_true Running (Run lock) is = inr refl
fails_true Running Error is = inr refl
fails_true Doubt s is = tt
fails_true Broken s is = tt

changes_true : (view : View) (b : Bool) (s : TdiState) → IsTrueOf view s → IsTrueOf view (after_change b s)
changes_true view true s is = fails_true view s is
changes_true view false s is = is

abbrev may_only_fail : Call → Bool
may_only_fail (BindStream stream live) = true
may_only_fail (UnbindStream stream) = true
may_only_fail (WriteRegister register value) = true
may_only_fail LevelReset = true
may_only_fail FirmwareUpdate = true
may_only_fail StreamLeft = true
may_only_fail _ = false

failing_true : (view : View) (t : DeviceTdi) (c : Call) → may_only_fail c ≡ true → IsTrueOf view t.state
    → IsTrueOf view (interface_after_call t c).state
failing_true view t (BindStream stream live) only is =
    subst (IsTrueOf view) (sym (bound_state t stream (bind_answer t stream live))) is
failing_true view t (UnbindStream stream) only is =
    subst (IsTrueOf view) (sym (unbound_state t stream (unbind_answer t stream))) is
failing_true view t (WriteRegister register value) only is = changes_true view _ t.state is
failing_true view t LevelReset only is = fails_true view t.state is
failing_true view t FirmwareUpdate only is = changes_true view _ t.state is
failing_true view t StreamLeft only is = fails_true view t.state is
failing_true view t c only is = absurd (true≢false (sym only))

called_true : (view : View) (b : Bool) (c : Call) (t : DeviceTdi) → may_only_fail c ≡ true → IsTrueOf view t.state
    → IsTrueOf view (interface_if_called b c t).state
called_true view true c t only is = failing_true view t c only is
called_true view false c t only is = is

-- the view is as it was, or broken
broken_true : (view : View) (b : Bool) (s : TdiState) → IsTrueOf view s
    → IsTrueOf (if b then view_broken view else view) s
broken_true Unlocked true s is = is
broken_true Locked true s is = tt
broken_true Running true s is = tt
broken_true Doubt true s is = tt
broken_true Broken true s is = tt
broken_true view false s is = is

-- ---- verdicts

-- what a verdict of an exchange with this number makes of both, if the request makes the interface `asked`
abbrev After : (Managed → Verdict → Managed) → ℕ → Managed → DeviceTdi → DeviceTdi → Verdict → Type 0
After on n m t asked w = IsTrueOf (on m w).view (if carries w n then asked else t).state

-- after a loss nothing is claimed, or the request did not come
in_doubt : (m r : Managed) (t asked : DeviceTdi) (b c : Bool) → r.view ≡ Doubt → (c ≡ false → b ≡ false)
    → IsTrueOf m.view t.state → IsTrueOf (if c then r else m).view (if b then asked else t).state
in_doubt m r t asked b true doubt not is = subst (λ view. IsTrueOf view (if b then asked else t).state) (sym doubt) tt
in_doubt m r t asked true false doubt not is = absurd (true≢false (not refl))
in_doubt m r t asked false false doubt not is = is

no_request : (n k : ℕ) → n ≤ k → (n == k) ≡ false → nat_lt k n ≡ false
no_request n k le not = grind (arith, nat_tests, le)

no_reply : (n k : ℕ) → n ≤ k → (n == k) ≡ false → nat_le k n ≡ false
no_reply n k le not = grind (arith, nat_tests, le, not)

in_order : (n k : ℕ) → (nat_le 1 n && nat_le n k) ≡ true → n ≤ k
in_order n k e = grind (arith, nat_tests, e)

-- if no exchange is lost, or one up to this is
unless : (P : Verdict → Type 0) (loss : Option Loss) (k : ℕ) (w : Verdict)
    → ((l : Lost) (n : ℕ) → n ≤ k → P (lost_at l n)) → P w → P (unless_lost loss k w)
unless P None k w lost done = done
unless P (Some loss) k w lost done = by (nat_le 1 loss.exchange && nat_le loss.exchange k) refl
  where
    by : (b : Bool) → (nat_le 1 loss.exchange && nat_le loss.exchange k) ≡ b
        → P (if b then lost_at loss.lost loss.exchange else w)
    by true e = lost loss.lost loss.exchange (in_order loss.exchange k e)
    by false e = done

-- ---- lock

lock_lost : (m : Managed) (t asked : DeviceTdi) → IsTrueOf m.view t.state → (l : Lost) (n : ℕ) → n ≤ 3
    → After on_lock 3 m t asked (lost_at l n)
lock_lost m t asked is Request n le = in_doubt m _ t asked (nat_lt 3 n) (n == 3) refl (no_request n 3 le) is
lock_lost m t asked is Reply n le = in_doubt m _ t asked (nat_le 3 n) (n == 3) refl (no_reply n 3 le) is

lock_done : (m : Managed) (t : DeviceTdi) (x : Site) (new : Lock) (answer : Result (List ℕ) ℕ) → IsTrueOf m.view t.state
    → After on_lock 3 m t (interface_after_lock t new answer) (verdict_of_lock x answer)
lock_done m t x new (Ok nonce) is = inl refl
lock_done m t x new (Err code) is = is

lock_secure : (m : Managed) (t asked : DeviceTdi) (s : StreamStatus) (w : Verdict) → IsTrueOf m.view t.state
    → After on_lock 3 m t asked w → After on_lock 3 m t asked (if_secure s w)
lock_secure m t asked status.Secure w is next = next
lock_secure m t asked s w is next = is

lock_view : (m : Managed) (t asked : DeviceTdi) (view : View) (w : Verdict) → IsTrueOf m.view t.state
    → After on_lock 3 m t asked w → After on_lock 3 m t asked (if_unlocked view w)
lock_view m t asked Unlocked w is next = next
lock_view m t asked view w is next = is

lock_true : (m : Managed) (t : DeviceTdi) (x : Site) (s : StreamStatus) (loss : Option Loss) (new : Lock)
    (answer : Result (List ℕ) ℕ) → IsTrueOf m.view t.state → After on_lock 3 m t (interface_after_lock t new answer)
    (if_unlocked m.view (if_secure s (unless_lost loss 3 (verdict_of_lock x answer))))
lock_true m t x s loss new answer is =
    let asked = interface_after_lock t new answer in
    lock_view m t asked m.view _ is (lock_secure m t asked s _ is
    (unless (After on_lock 3 m t asked) loss 3 (verdict_of_lock x answer) (lock_lost m t asked is)
    (lock_done m t x new answer is)))

-- ---- start

start_lost : (m : Managed) (t asked : DeviceTdi) → IsTrueOf m.view t.state → (l : Lost) (n : ℕ) → n ≤ 1
    → After on_start 1 m t asked (lost_at l n)
start_lost m t asked is Request n le = in_doubt m _ t asked (nat_lt 1 n) (n == 1) refl (no_request n 1 le) is
start_lost m t asked is Reply n le = in_doubt m _ t asked (nat_le 1 n) (n == 1) refl (no_reply n 1 le) is

starts_run : (s : TdiState) (nonce : List ℕ) (done : Unit {0}) → start_answer s nonce ≡ Ok done
    → IsTrueOf Running (after_start s nonce)
starts_run (ConfigLocked lock held) nonce done is = by (bytes_eq nonce held) is
  where
    refused : Result (Unit {0}) ℕ
    refused = Err (error_code InvalidNonce)

    by : (b : Bool) → (if b then Ok tt else refused) ≡ Ok done
        → IsTrueOf Running (if b then Run lock else ConfigLocked lock held)
    by true is = inl refl
    by false is = absurd cc
starts_run ConfigUnlocked nonce done is = absurd cc
starts_run (Run lock) nonce done is = absurd cc
starts_run Error nonce done is = absurd cc

start_done : (m : Managed) (t asked : DeviceTdi) (x : Site) (draw : ℕ) (answer : Result (Unit {0}) ℕ)
    → asked.state ≡ after_start t.state m.nonce → start_answer t.state m.nonce ≡ answer
    → After on_start 1 m t asked (started_as x draw answer)
start_done m t asked x draw (Ok done) state e = subst (IsTrueOf Running) (sym state) (starts_run t.state m.nonce done e)
start_done m t asked x draw (Err code) state e = tt

start_fresh : (m : Managed) (t asked : DeviceTdi) (draw needs : ℕ) (w : Verdict) → IsTrueOf m.view t.state
    → After on_start 1 m t asked w → After on_start 1 m t asked (if_fresh draw needs w)
start_fresh m t asked draw needs w is next = by (nat_lt draw needs)
  where
    by : (b : Bool) → After on_start 1 m t asked (if b then v.Interface (iv.RefusedRefreshFirst draw needs) else w)
    by true = is
    by false = next

start_secure : (m : Managed) (t asked : DeviceTdi) (s : StreamStatus) (w : Verdict) → IsTrueOf m.view t.state
    → After on_start 1 m t asked w → After on_start 1 m t asked (if_secure s w)
start_secure m t asked status.Secure w is next = next
start_secure m t asked s w is next = is

start_reported : (m : Managed) (t asked : DeviceTdi) (b : Bool) (w : Verdict) → IsTrueOf m.view t.state
    → After on_start 1 m t asked w → After on_start 1 m t asked (if_reported b w)
start_reported m t asked true w is next = next
start_reported m t asked false w is next = is

start_view : (m : Managed) (t asked : DeviceTdi) (view : View) (w : Verdict) → IsTrueOf m.view t.state
    → After on_start 1 m t asked w → After on_start 1 m t asked (if_locked view w)
start_view m t asked Locked w is next = next
start_view m t asked view w is next = is

start_true : (m : Managed) (t : DeviceTdi) (x : Site) (draw : ℕ) (s : StreamStatus) (loss : Option Loss)
    → IsTrueOf m.view t.state → After on_start 1 m t (interface_after_call t (StartInterface m.nonce))
    (if_locked m.view (if_reported m.reported (if_secure s (if_fresh draw m.needs
    (unless_lost loss 1 (started_as x draw (start_answer t.state m.nonce)))))))
start_true m t x draw s loss is =
    let asked = interface_after_call t (StartInterface m.nonce) in
    start_view m t asked m.view _ is (start_reported m t asked m.reported _ is (start_secure m t asked s _ is
    (start_fresh m t asked draw m.needs _ is
    (unless (After on_start 1 m t asked) loss 1 (started_as x draw (start_answer t.state m.nonce))
    (start_lost m t asked is) (start_done m t asked x draw (start_answer t.state m.nonce) refl refl)))))

-- ---- halt, state

halt_lost : (drawn : ℕ) (m : Managed) (t asked : DeviceTdi) → IsTrueOf m.view t.state → (l : Lost) (n : ℕ) → n ≤ 1
    → After (on_halt drawn) 1 m t asked (lost_at l n)
halt_lost drawn m t asked is Request n le = in_doubt m _ t asked (nat_lt 1 n) (n == 1) refl (no_request n 1 le) is
halt_lost drawn m t asked is Reply n le = in_doubt m _ t asked (nat_le 1 n) (n == 1) refl (no_reply n 1 le) is

halt_true : (drawn : ℕ) (m : Managed) (t : DeviceTdi) (i needs : ℕ) (loss : Option Loss) → IsTrueOf m.view t.state
    → After (on_halt drawn) 1 m t (interface_after_call t StopInterface)
    (unless_lost loss 1 (v.Interface (iv.Halted i needs)))
halt_true drawn m t i needs loss is = unless (After (on_halt drawn) 1 m t (interface_after_call t StopInterface)) loss 1
    _ (halt_lost drawn m t (interface_after_call t StopInterface) is) refl

told_true : (view : View) (state : ℕ) (s : TdiState) → IsTrueOf view s → IsTrueOf (view_told view state) s
told_true Locked state s is = by (state == 1)
  where
    by : (b : Bool) → IsTrueOf (if b then Locked else Broken) s
    by true = is
    by false = tt
told_true Running state s is = by (state == 2)
  where
    by : (b : Bool) → IsTrueOf (if b then Running else Broken) s
    by true = is
    by false = tt
told_true Unlocked state s is = is
told_true Doubt state s is = tt
told_true Broken state s is = tt

state_true : (m : Managed) (w : Verdict) (s : TdiState) → IsTrueOf m.view s → IsTrueOf (on_state m w).view s
state_true m (v.Interface (iv.State i state)) s is = told_true m.view state s is
state_true m (v.Interface w) s is = is
state_true m w s is = is

report_view : (m : Managed) (w : Verdict) → (on_report m w).view ≡ m.view
report_view m w = grind arith

bind_view : (line : ℕ) (m : Managed) (w : Verdict) → (on_bind line m w).view ≡ m.view
bind_view line m w = grind arith

-- ---- the pair

-- the manager's view and the state after it
abbrev Holds : Plan → History → Site → Type 0
Holds plan h x = IsTrueOf (view_at h x) (interface_at plan h x).state

as_true : (m n : Managed) (s t : DeviceTdi) → m ≡ n → s ≡ t → IsTrueOf n.view t.state → IsTrueOf m.view s.state
as_true m n s t one two is =
    subst (λ (k : Managed). IsTrueOf k.view s.state) (sym one)
    (subst (λ (k : DeviceTdi). IsTrueOf n.view k.state) (sym two)
    is)

pub if_is : {A : Type 0} (b : Bool) (m n : A) → b ≡ true → (if b then m else n) ≡ m
if_is b m n is = rw is refl

if_not : {A : Type 0} (b : Bool) (m n : A) → b ≡ false → (if b then m else n) ≡ n
if_not b m n is = rw is refl

pub interface_own : (plan : Plan) (h : History) (e : InterfaceEvent) (w : Verdict) (x : Site)
    → is_number (number_in e) x.number ≡ true → interface_at plan ((event.Interface e, w) ∷ h) x
    ≡ interface_asked (around_at_site plan h x) x e w (interface_at plan h x)
unfolding devices
interface_own plan h e w x own = if_is (is_number (number_in e) x.number) _ _ own

interface_other : (plan : Plan) (h : History) (e : InterfaceEvent) (w : Verdict) (x : Site)
    → is_number (number_in e) x.number ≡ false → interface_at plan ((event.Interface e, w) ∷ h) x
    ≡ interface_at plan h x
unfolding devices
interface_other plan h e w x other = if_not (is_number (number_in e) x.number) _ _ other

pub called : (b : Bool) (c : Call) (t : DeviceTdi) → interface_if_called b c t
    ≡ (if b then interface_after_call t c else t)
called true c t = refl
called false c t = refl

own_turn : (plan : Plan) (h : History) (e : InterfaceEvent) (w : Verdict) (x : Site) → site_at plan x.number ≡ Some x
    → is_number (number_in e) x.number ≡ true → InterfaceCause plan ((event.Interface e, w) ∷ h) → Holds plan h x
    → IsTrueOf (on_operation (draws h) e w (managed_view h x)).view
    (interface_asked (around_at_site plan h x) x e w (interface_at plan h x)).state
own_turn plan h (ie.Lock i loss) w x at own cause is =
    let a = around_at_site plan h x in
    let t = interface_at plan h x in
    let due = due_own plan h x (ie.Lock i loss) i w at refl own cause.0 in
    subst (λ (k : DeviceTdi). IsTrueOf (on_lock (managed_view h x) w).view k.state)
    (sym (called (carries w 3) (lock_call a x) t))
    (subst (After on_lock 3 (managed_view h x) t (interface_after_call t (lock_call a x))) (sym due)
    (lock_true (managed_view h x) t x (host_status h x) loss (new_lock t x.plan.flags x.plan.stream x.plan.offset)
    (lock_answer t x.plan.flags x.plan.offset a.secure a.drawn) is))
own_turn plan h (ie.Start i loss) w x at own cause is =
    let t = interface_at plan h x in
    let due = due_own plan h x (ie.Start i loss) i w at refl own cause.0 in
    subst (λ (k : DeviceTdi). IsTrueOf (on_start (managed_view h x) w).view k.state)
    (sym (called (carries w 1) (StartInterface (managed_view h x).nonce) t))
    (subst (After on_start 1 (managed_view h x) t (interface_after_call t (StartInterface (managed_view h x).nonce)))
    (sym due)
    (start_true (managed_view h x) t x _ (host_status h x) loss is))
own_turn plan h (ie.Halt i loss) w x at own cause is =
    let t = interface_at plan h x in
    let due = due_own plan h x (ie.Halt i loss) i w at refl own cause.0 in
    subst (λ (k : DeviceTdi). IsTrueOf (on_halt (draws h) (managed_view h x) w).view k.state)
    (sym (called (carries w 1) StopInterface t))
    (subst (After (on_halt (draws h)) 1 (managed_view h x) t (interface_after_call t StopInterface)) (sym due)
    (halt_true (draws h) (managed_view h x) t x.number _ loss is))
own_turn plan h (ie.State i loss) w x at own cause is = state_true (managed_view h x) w (interface_at plan h x).state is
own_turn plan h (ie.Report i loss) w x at own cause is =
    subst (λ (view : View). IsTrueOf view (interface_at plan h x).state) (sym (report_view (managed_view h x) w)) is
own_turn plan h (ie.Bind i line stream loss) w x at own cause is =
    subst (λ (view : View). IsTrueOf view
    (interface_if_called (carries w 1) (BindStream stream ((around_at_site plan h x).live stream))
    (interface_at plan h x)).state)
    (sym (bind_view line (managed_view h x) w))
    (called_true (view_at h x) (carries w 1) (BindStream stream ((around_at_site plan h x).live stream))
    (interface_at plan h x)
    refl is)
own_turn plan h (ie.Unbind i line stream loss) w x at own cause is =
    called_true (view_at h x) (carries w 1) (UnbindStream stream) (interface_at plan h x) refl is
own_turn plan h (ie.Write i register value) w x at own cause is =
    called_true (view_at h x) (changes_device w) (WriteRegister register value) (interface_at plan h x) refl is
own_turn plan h (ie.Flr i) w x at own cause is =
    called_true (view_at h x) (changes_device w) LevelReset (interface_at plan h x) refl is
own_turn plan h (ie.Firmware i) w x at own cause is =
    called_true (view_at h x) (changes_device w) FirmwareUpdate (interface_at plan h x) refl is
own_turn plan h e w x at own cause is = is

reset_true : (b left : Bool) (m : Managed) (t : DeviceTdi) → IsTrueOf m.view t.state
    → IsTrueOf (if b then record m { view = view_broken m.view } else m).view
    (interface_if_called (b || left) (reset_call b) t).state
reset_true true left m t is = by m.view
  where
    by : (view : View) → IsTrueOf (view_broken view) ConfigUnlocked
    by Unlocked = refl
    by Locked = tt
    by Running = tt
    by Doubt = tt
    by Broken = tt
reset_true false left m t is = called_true m.view left StreamLeft t refl is

stop_true : (b left : Bool) (m : Managed) (t : DeviceTdi) → IsTrueOf m.view t.state
    → IsTrueOf (if b then record m { view = view_broken m.view } else m).view
    (interface_if_called left StreamLeft t).state
stop_true true left m t is =
    broken_true m.view true (interface_if_called left StreamLeft t).state (called_true m.view left StreamLeft t refl is)
stop_true false left m t is = called_true m.view left StreamLeft t refl is

turn : (plan : Plan) (h : History) (e : Event) (w : Verdict) (x : Site) → site_at plan x.number ≡ Some x
    → InterfaceCause plan ((e, w) ∷ h) → Holds plan h x → Holds plan ((e, w) ∷ h) x
unfolding devices managed_view
turn plan h (event.Interface e) w x at cause is = elim (cases_Bool (is_number (number_in e) x.number)) [
  | inl own ↦
      as_true (managed_view ((event.Interface e, w) ∷ h) x) _ (interface_at plan ((event.Interface e, w) ∷ h) x) _
      (managed_own h e w x own) (interface_own plan h e w x own) (own_turn plan h e w x at own cause is)
  | inr other ↦
      as_true (managed_view ((event.Interface e, w) ∷ h) x) _ (interface_at plan ((event.Interface e, w) ∷ h) x) _
      (managed_other h e w x other) (interface_other plan h e w x other) is
]
turn plan h (event.Stop line stream loss) w x at cause is =
    stop_true (stop_breaks (op_of h) (draws h) x line stream w (managed_view h x))
    (is_stream_left plan h (event.Stop line stream loss) w x (interface_at plan h x)) (managed_view h x)
    (interface_at plan h x) is
turn plan h (event.Reset link ends) (v.Reset l) x at cause is =
    reset_true (link == x.link) (is_stream_left plan h (event.Reset link ends) (v.Reset l) x (interface_at plan h x))
    (managed_view h x)
    (interface_at plan h x) is
turn plan h e w x at cause is = called_true (view_at h x) (is_stream_left plan h e w x (interface_at plan h x))
    StreamLeft (interface_at plan h x) refl is

pub true_views : (plan : Plan) (h : History) → InterfaceCause plan h → (x : Site) → site_at plan x.number ≡ Some x
    → IsTrueOf (view_at h x) (interface_at plan h x).state
unfolding devices managed_view
true_views plan [] cause x at = refl
true_views plan ((e, w) ∷ h) cause x at = turn plan h e w x at cause (true_views plan h cause.1 x at)
