-- While the view is Locked and the interface in CONFIG_LOCKED, the manager has the nonce of its lock.
use Rattle.std.proofs.Common.{◌≡◌, ℕ, ◌==◌, ◌||◌, Bool, true, false, Option, Some, List, [], ◌∷◌, ◌⊎◌, inl, inr, refl}
use Rattle.std.proofs.Common.{ap, sym, subst, ◌∙◌, arith, Result, Ok, if◌then◌else◌}
use Rattle.std.proofs.lemmas.Bool.Decides.{nat_tests}
use Rattle.ide_types.specs.declared.status.StreamStatus.{StreamStatus}
use Rattle.spec_keys.specs.Due.{if_secure}
use Rattle.spec_interfaces.specs.Terms.{Plan, History, Event, InterfaceEvent, Verdict, Loss, View, Unlocked, Locked}
use Rattle.spec_interfaces.specs.Terms.{op_of, Running, Doubt, Broken, ConfigLocked, draws, DeviceTdi, Lock, Call}
use Rattle.spec_interfaces.specs.Terms.{LockInterface, StartInterface, StopInterface, BindStream, UnbindStream}
use Rattle.spec_interfaces.specs.Terms.{WriteRegister, LevelReset, FirmwareUpdate, StreamLeft, interface_after_call}
use Rattle.spec_interfaces.specs.Terms.{bind_answer, unbind_answer, StreamStage}
use Rattle.interface_state.specs.Machine.{new_lock, interface_after_lock}
use Rattle.interface_state.proofs.Bound.{bound_state, unbound_state}
use Rattle.spec_interfaces.specs.Sites.{Site, site_at}
use Rattle.spec_interfaces.specs.Exchanges.{carries, changes_device}
use Rattle.spec_interfaces.specs.Views.{Managed, managed_after, on_lock, on_operation, number_in, is_number}
use Rattle.spec_interfaces.specs.Views.{view_broken}
unfoldable use Rattle.spec_interfaces.specs.Views.{managed_view}
use Rattle.spec_interfaces.specs.Devices.{Around, around_at_site, interface_at, interface_asked, interface_if_called}
use Rattle.spec_interfaces.specs.Devices.{next_interface, is_stream_left, reset_call, lock_call}
unfoldable use Rattle.spec_interfaces.specs.Devices.{devices}
use Rattle.spec_interfaces.specs.Due.{if_unlocked, unless_lost, verdict_of_lock, host_status, lock_answer_at}
use Rattle.spec_interfaces.specs.Cause.{InterfaceCause}
use Rattle.spec_interfaces.proofs.Views.{due_own}
use Rattle.law_outcomes.proofs.AfterInterfaces.{is_lock}
use Rattle.law_locks.proofs.TrueViews.{called}
use Rattle.script_events.specs.declared.event.Event.TheVariants as event
use Rattle.script_events.specs.declared.event.InterfaceEvent.TheVariants as ie
use Rattle.event_verdicts.specs.declared.verdict.Verdict.TheVariants as v
use Rattle.ide_types.specs.declared.verdict.InterfaceVerdict.TheVariants as iv

abbrev pub HasNonce : Managed → DeviceTdi → Type 0
HasNonce m t = m.view ≡ Locked → (lock : Lock) (held : List ℕ) → t.state ≡ ConfigLocked lock held → held ≡ m.nonce

-- ---- no other call than LOCK_INTERFACE leads to CONFIG_LOCKED

abbrev locks : Call → Bool
locks (LockInterface flags stream offset secure drawn) = true
locks c = false

back : (t : DeviceTdi) (c : Call) (lock : Lock) (held : List ℕ) → locks c ≡ false
    → (interface_after_call t c).state ≡ ConfigLocked lock held → t.state ≡ ConfigLocked lock held
back t (BindStream stream live) lock held other is = sym (bound_state t stream (bind_answer t stream live)) ∙ is
back t (UnbindStream stream) lock held other is = sym (unbound_state t stream (unbind_answer t stream)) ∙ is
back t c lock held other is = grind (arith, nat_tests)

called_back : (b : Bool) (c : Call) (t : DeviceTdi) (lock : Lock) (held : List ℕ) → locks c ≡ false
    → (interface_if_called b c t).state ≡ ConfigLocked lock held → t.state ≡ ConfigLocked lock held
called_back true c t lock held other is = back t c lock held other is
called_back false c t lock held other is = is

if_back : (b : Bool) (s t : DeviceTdi) (lock : Lock) (held : List ℕ)
    → (s.state ≡ ConfigLocked lock held → t.state ≡ ConfigLocked lock held)
    → (if b then s else t).state ≡ ConfigLocked lock held → t.state ≡ ConfigLocked lock held
if_back true s t lock held more is = more is
if_back false s t lock held more is = is

asked_back : (a : Around) (x : Site) (e : InterfaceEvent) (w : Verdict) (t : DeviceTdi) (lock : Lock) (held : List ℕ)
    → is_lock (event.Interface e) ≡ false → (interface_asked a x e w t).state ≡ ConfigLocked lock held
    → t.state ≡ ConfigLocked lock held
asked_back a x (ie.Lock i loss) w t lock held other is = absurd cc
asked_back a x (ie.Start i loss) w t lock held other is =
    called_back (carries w 1) (StartInterface a.nonce) t lock held refl is
asked_back a x (ie.Halt i loss) w t lock held other is = called_back (carries w 1) StopInterface t lock held refl is
asked_back a x (ie.Bind i line stream loss) w t lock held other is =
    called_back (carries w 1) (BindStream stream (a.live stream)) t lock held refl is
asked_back a x (ie.Unbind i line stream loss) w t lock held other is =
    called_back (carries w 1) (UnbindStream stream) t lock held refl is
asked_back a x (ie.Write i register value) w t lock held other is =
    called_back (changes_device w) (WriteRegister register value) t lock held refl is
asked_back a x (ie.Flr i) w t lock held other is = called_back (changes_device w) LevelReset t lock held refl is
asked_back a x (ie.Firmware i) w t lock held other is =
    called_back (changes_device w) FirmwareUpdate t lock held refl is
asked_back a x e w t lock held other is = is

reset_none : (own : Bool) → locks (reset_call own) ≡ false
reset_none own = grind arith

next_back : (a : Around) (left : Bool) (x : Site) (e : Event) (w : Verdict) (t : DeviceTdi) (lock : Lock)
    (held : List ℕ) → is_lock e ≡ false → (next_interface a left x e w t).state ≡ ConfigLocked lock held
    → t.state ≡ ConfigLocked lock held
next_back a left x (event.Interface e) w t lock held other is =
    if_back (is_number (number_in e) x.number) (interface_asked a x e w t) t lock held
    (asked_back a x e w t lock held other) is
next_back a left x (event.Reset link ends) (v.Reset l) t lock held other is =
    called_back ((link == x.link) || left) (reset_call (link == x.link)) t lock held (reset_none (link == x.link)) is
next_back a left x e w t lock held other is = called_back left StreamLeft t lock held refl is

-- ---- at the manager

record Keeps (m n : Managed) : Type 0 where
  view : n.view ≡ Locked → m.view ≡ Locked
  nonce : n.view ≡ Locked → n.nonce ≡ m.nonce

on_keeps : (drawn : ℕ) (e : InterfaceEvent) (w : Verdict) (m : Managed) → is_lock (event.Interface e) ≡ false
    → Keeps m (on_operation drawn e w m)
on_keeps drawn (ie.Lock i loss) w m other = absurd cc
on_keeps drawn (ie.Report i loss) w m other = record { view = λ is. grind arith; nonce = λ is. grind arith }
on_keeps drawn (ie.Start i loss) w m other = record { view = λ is. grind arith; nonce = λ is. grind arith }
on_keeps drawn (ie.Halt i loss) w m other = record { view = λ is. grind arith; nonce = λ is. grind arith }
on_keeps drawn (ie.State i loss) w m other = record { view = λ is. grind arith; nonce = λ is. grind arith }
on_keeps drawn (ie.Bind i line stream loss) w m other = record { view = λ is. grind arith; nonce = λ is. grind arith }
on_keeps drawn e w m other = record { view = λ is. is; nonce = λ is. refl }

if_keeps : (b : Bool) (m n : Managed) → Keeps m n → Keeps m (if b then n else m)
if_keeps true m n keeps = keeps
if_keeps false m n keeps = record { view = λ is. is; nonce = λ is. refl }

broken_keeps : (m : Managed) → Keeps m (record m { view = view_broken m.view })
broken_keeps m = record { view = λ is. grind arith; nonce = λ is. refl }

after_keeps : (ops : ℕ → ℕ → StreamStage) (drawn : ℕ) (x : Site) (e : Event) (w : Verdict) (m : Managed)
    → is_lock e ≡ false → Keeps m (managed_after ops drawn x e w m)
after_keeps ops drawn x (event.Interface e) w m other =
    if_keeps (is_number (number_in e) x.number) m _ (on_keeps drawn e w m other)
after_keeps ops drawn x (event.Stop line stream loss) w m other = if_keeps _ m _ (broken_keeps m)
after_keeps ops drawn x (event.Reset link ends) (v.Reset l) m other = if_keeps (link == x.link) m _ (broken_keeps m)
after_keeps ops drawn x e w m other = record { view = λ is. is; nonce = λ is. refl }

-- ---- a lock

-- it leaves the view Locked only if it gave a nonce, or if the view was Locked
locked_by : (m : Managed) (w : Verdict) → m.view ≡ Unlocked → (on_lock m w).view ≡ Locked
    → (i : ℕ) × (nonce : List ℕ) × (w ≡ v.Interface (iv.Locked i nonce))
locked_by m (v.Interface (iv.Locked i nonce)) was is = (i, nonce, refl)
locked_by m (v.Interface w) was is = absurd (grind arith)
locked_by m w was is = absurd (grind arith)

locked_ok : (x : Site) (s : StreamStatus) (loss : Option Loss) (answer : Result (List ℕ) ℕ) (i : ℕ) (nonce : List ℕ)
    → v.Interface (iv.Locked i nonce) ≡ if_secure s (unless_lost loss 3 (verdict_of_lock x answer))
    → answer ≡ Ok nonce
locked_ok x s loss answer i nonce is = grind arith

held_is : (t : DeviceTdi) (new lock : Lock) (nonce held : List ℕ) (answer : Result (List ℕ) ℕ) → answer ≡ Ok nonce
    → (interface_after_lock t new answer).state ≡ ConfigLocked lock held → held ≡ nonce
held_is t new lock nonce held answer ok is = let same = rw ok at is in grind arith

not_unlocked : (m : Managed) (w : Verdict) → (m.view ≡ Unlocked → ⊥) → (z : Verdict) → w ≡ if_unlocked m.view z
    → (on_lock m w ≡ m) × (carries w 3 ≡ false)
not_unlocked m w other z is = by m.view refl
  where
    by : (view : View) → m.view ≡ view → (on_lock m w ≡ m) × (carries w 3 ≡ false)
    by Unlocked e = absurd (other e)
    by Locked e = let same = rw e at is in rw same (refl, refl)
    by Running e = let same = rw e at is in rw same (refl, refl)
    by Doubt e = let same = rw e at is in rw same (refl, refl)
    by Broken e = let same = rw e at is in rw same (refl, refl)

is_unlocked_or : (view : View) → (view ≡ Unlocked) ⊎ (view ≡ Unlocked → ⊥)
is_unlocked_or Unlocked = inl refl
is_unlocked_or Locked = inr (λ e. absurd cc)
is_unlocked_or Running = inr (λ e. absurd cc)
is_unlocked_or Doubt = inr (λ e. absurd cc)
is_unlocked_or Broken = inr (λ e. absurd cc)

-- after a lock that is due
lock_has : (m : Managed) (t : DeviceTdi) (x : Site) (s : StreamStatus) (loss : Option Loss) (new : Lock)
    (answer : Result (List ℕ) ℕ) (w : Verdict)
    → w ≡ if_unlocked m.view (if_secure s (unless_lost loss 3 (verdict_of_lock x answer)))
    → HasNonce m t → HasNonce (on_lock m w) (if carries w 3 then interface_after_lock t new answer else t)
lock_has m t x s loss new answer w due has = elim (is_unlocked_or m.view) [
  | inl was ↦ λ view lock held state.
      let by = locked_by m w was view in
      let given : v.Interface (iv.Locked by.0 by.1) ≡ if_secure s (unless_lost loss 3 (verdict_of_lock x answer)) =
      sym by.2 ∙ (due ∙ ap (λ u. if_unlocked u (if_secure s (unless_lost loss 3 (verdict_of_lock x answer)))) was)
      in
      let ok = locked_ok x s loss answer by.0 by.1 given in
      held_is t new lock by.1 held answer ok (rw by.2 at state)
      ∙ sym (ap (λ (u : Verdict). (on_lock m u).nonce) by.2)
  | inr other ↦
      let same = not_unlocked m w other _ due in
      λ view lock held state.
      has (sym (ap (λ (n : Managed). n.view) same.0) ∙ view) lock held (rw same.1 at state)
      ∙ sym (ap (λ (n : Managed). n.nonce) same.0)
]

-- ---- all pairs

step_by : (a : Around) (left : Bool) (ops : ℕ → ℕ → StreamStage) (drawn : ℕ) (x : Site) (e : Event) (w : Verdict)
    (m : Managed) (t : DeviceTdi) → is_lock e ≡ false → HasNonce m t
    → HasNonce (managed_after ops drawn x e w m) (next_interface a left x e w t)
step_by a left ops drawn x e w m t other has view lock held state =
    let keeps = after_keeps ops drawn x e w m other in
    has (keeps.view view) lock held (next_back a left x e w t lock held other state) ∙ sym (keeps.nonce view)

lock_step : (plan : Plan) (h : History) (i : ℕ) (loss : Option Loss) (w : Verdict) (x : Site)
    → site_at plan x.number ≡ Some x → InterfaceCause plan ((event.Interface (ie.Lock i loss), w) ∷ h)
    → HasNonce (managed_view h x) (interface_at plan h x)
    → (b : Bool) → (i == x.number) ≡ b
    → HasNonce (if b then on_lock (managed_view h x) w else managed_view h x)
    (if b then interface_asked (around_at_site plan h x) x (ie.Lock i loss) w (interface_at plan h x)
    else interface_at plan h x)
lock_step plan h i loss w x at cause has false e = has
lock_step plan h i loss w x at cause has true e =
    let a = around_at_site plan h x in
    let t = interface_at plan h x in
    subst (HasNonce (on_lock (managed_view h x) w)) (sym (called (carries w 3) (lock_call a x) t))
    (lock_has (managed_view h x) t x (host_status h x) loss (new_lock t x.plan.flags x.plan.stream x.plan.offset)
    (lock_answer_at a x t) w (due_own plan h x (ie.Lock i loss) i w at refl e cause.0) has)

pub nonce_held : (plan : Plan) (h : History) → InterfaceCause plan h → (x : Site) → site_at plan x.number ≡ Some x
    → HasNonce (managed_view h x) (interface_at plan h x)
unfolding devices managed_view
nonce_held plan [] cause x at = λ view lock held state. absurd cc
nonce_held plan ((event.Interface (ie.Lock i loss), w) ∷ h) cause x at =
    lock_step plan h i loss w x at cause (nonce_held plan h cause.1 x at) (i == x.number) refl
nonce_held plan ((event.Interface e, w) ∷ h) cause x at =
    step_by (around_at_site plan h x) (is_stream_left plan h (event.Interface e) w x (interface_at plan h x)) (op_of h)
    (draws h) x (event.Interface e) w (managed_view h x) (interface_at plan h x) refl (nonce_held plan h cause.1 x at)
nonce_held plan ((e, w) ∷ h) cause x at =
    step_by (around_at_site plan h x) (is_stream_left plan h e w x (interface_at plan h x)) (op_of h) (draws h) x e w
    (managed_view h x) (interface_at plan h x) refl (nonce_held plan h cause.1 x at)
