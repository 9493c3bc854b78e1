-- What makes an interface run, and what locks it.
use Rattle.std.proofs.Common.{◌≡◌, ℕ, ◌==◌, ◌&&◌, ◌||◌, ◌∷◌, Bool, true, false, List, Result, Ok, Err, if◌then◌else◌}
use Rattle.std.proofs.Common.{refl, ap, ◌∙◌, arith}
use Rattle.std.proofs.lemmas.Bool.Decides.{nat_tests}
use Rattle.spec_interfaces.specs.Terms.{Plan, Event, Verdict, History, Lock, DeviceTdi, lock_answer, Call}
use Rattle.spec_interfaces.specs.Terms.{LockInterface, StartInterface, StopInterface, WriteRegister, LevelReset}
use Rattle.spec_interfaces.specs.Terms.{FirmwareUpdate, StreamLeft, BindStream, UnbindStream, interface_after_call}
use Rattle.spec_interfaces.specs.Terms.{bind_answer, unbind_answer}
use Rattle.interface_state.proofs.Bound.{bound_state, unbound_state}
use Rattle.interface_state.specs.Machine.{new_lock, interface_after_lock}
use Rattle.spec_interfaces.specs.Sites.{Site}
use Rattle.spec_interfaces.specs.Exchanges.{carries, changes_device}
use Rattle.spec_interfaces.specs.Views.{is_number, number_in}
use Rattle.spec_interfaces.specs.Devices.{Around, around_at_site, interface_if_called, lock_call, next_interface}
use Rattle.spec_interfaces.specs.Devices.{accepts_lock, is_run}
use Rattle.spec_interfaces.specs.Devices.{reset_call, runs_at, is_stream_left, devices, interface_at, locks_accepted}
use Rattle.script_events.specs.declared.event.Event.TheVariants as event
use Rattle.script_events.specs.declared.event.InterfaceEvent.TheVariants as ie
use Rattle.event_verdicts.specs.declared.verdict.Verdict.TheVariants as v

-- ---- RUN is entered by START_INTERFACE alone

abbrev pub is_start : Call → Bool
is_start (StartInterface nonce) = true
is_start _ = false

locked_rests : (tdi : DeviceTdi) (new : Lock) (answer : Result (List ℕ) ℕ) → is_run tdi.state ≡ false
    → is_run (interface_after_lock tdi new answer).state ≡ false
locked_rests tdi new (Ok nonce) rests = refl
locked_rests tdi new (Err code) rests = rests

pub after_rests : (tdi : DeviceTdi) (c : Call) → is_start c ≡ false → is_run tdi.state ≡ false
    → is_run (interface_after_call tdi c).state ≡ false
after_rests tdi (LockInterface flags stream offset secure drawn) other rests =
    locked_rests tdi (new_lock tdi flags stream offset) (lock_answer tdi flags offset secure drawn) rests
after_rests tdi (BindStream stream live) other rests =
    ap is_run (bound_state tdi stream (bind_answer tdi stream live)) ∙ rests
after_rests tdi (UnbindStream stream) other rests =
    ap is_run (unbound_state tdi stream (unbind_answer tdi stream)) ∙ rests
after_rests tdi c other rests = grind (arith, nat_tests)

called_rests : (b : Bool) (c : Call) (tdi : DeviceTdi) → is_start c ≡ false → is_run tdi.state ≡ false
    → is_run (interface_if_called b c tdi).state ≡ false
called_rests true c tdi other rests = after_rests tdi c other rests
called_rests false c tdi other rests = rests

-- the pair brings it a START_INTERFACE
abbrev pub starts : Site → Event → Verdict → Bool
starts x (event.Interface (ie.Start i loss)) w = (i == x.number) && carries w 1
starts x e w = false

if_rests : (b : Bool) (s t : DeviceTdi) → is_run s.state ≡ false → is_run t.state ≡ false
    → is_run (if b then s else t).state ≡ false
if_rests true s t one two = one
if_rests false s t one two = two

start_rests : (b c : Bool) (call : Call) (tdi : DeviceTdi) → (b && c) ≡ false → is_run tdi.state ≡ false
    → is_run (if b then interface_if_called c call tdi else tdi).state ≡ false
start_rests false c call tdi none rests = rests
start_rests true false call tdi none rests = rests
start_rests true true call tdi none rests = absurd cc

pub reset_starts_none : (own : Bool) → is_start (reset_call own) ≡ false
reset_starts_none own = grind arith

next_rests : (a : Around) (left : Bool) (x : Site) (e : Event) (w : Verdict) (tdi : DeviceTdi) → starts x e w ≡ false
    → is_run tdi.state ≡ false → is_run (next_interface a left x e w tdi).state ≡ false
next_rests a left x (event.Interface (ie.Lock i loss)) w tdi none rests = if_rests (i == x.number) _ tdi
    (called_rests (carries w 3) (lock_call a x) tdi refl rests) rests
next_rests a left x (event.Interface (ie.Start i loss)) w tdi none rests = start_rests (i == x.number) (carries w 1)
    (StartInterface a.nonce) tdi none rests
next_rests a left x (event.Interface (ie.Halt i loss)) w tdi none rests = if_rests (i == x.number) _ tdi
    (called_rests (carries w 1) StopInterface tdi refl rests) rests
next_rests a left x (event.Interface (ie.Bind i line stream loss)) w tdi none rests = if_rests (i == x.number) _ tdi
    (called_rests (carries w 1) (BindStream stream (a.live stream)) tdi refl rests) rests
next_rests a left x (event.Interface (ie.Unbind i line stream loss)) w tdi none rests = if_rests (i == x.number) _ tdi
    (called_rests (carries w 1) (UnbindStream stream) tdi refl rests) rests
next_rests a left x (event.Interface (ie.Write i register value)) w tdi none rests =
    if_rests (i == x.number) _ tdi (called_rests (changes_device w) (WriteRegister register value) tdi refl rests) rests
next_rests a left x (event.Interface (ie.Flr i)) w tdi none rests = if_rests (i == x.number) _ tdi
    (called_rests (changes_device w) LevelReset tdi refl rests) rests
next_rests a left x (event.Interface (ie.Firmware i)) w tdi none rests = if_rests (i == x.number) _ tdi
    (called_rests (changes_device w) FirmwareUpdate tdi refl rests) rests
next_rests a left x (event.Interface e) w tdi none rests = if_rests (is_number (number_in e) x.number) tdi tdi rests
    rests
next_rests a left x (event.Reset link ends) (v.Reset l) tdi none rests =
    called_rests ((link == x.link) || left) (reset_call (link == x.link)) tdi (reset_starts_none (link == x.link)) rests
next_rests a left x e w tdi none rests = called_rests left StreamLeft tdi refl rests

-- an interface that does not run runs no sooner than it is asked to
pub rests_on : (plan : Plan) (h : History) (e : Event) (w : Verdict) (x : Site) → starts x e w ≡ false
    → runs_at plan h x ≡ false → runs_at plan ((e, w) ∷ h) x ≡ false
unfolding devices
rests_on plan h e w x none rests = next_rests (around_at_site plan h x)
    (is_stream_left plan h e w x (interface_at plan h x))
    x e w
    (interface_at plan h x) none rests

-- ---- a lock

-- the pair brings it a LOCK_INTERFACE
abbrev pub locks_it : Site → Event → Verdict → Bool
locks_it x (event.Interface (ie.Lock i loss)) w = (i == x.number) && carries w 3
locks_it x e w = false

not_given : (b c d : Bool) → (b && c) ≡ false → (b && c && d) ≡ false
not_given b c d none = grind arith

pub not_accepted : (a : Around) (x : Site) (e : Event) (w : Verdict) (tdi : DeviceTdi) → locks_it x e w ≡ false
    → accepts_lock a x e w tdi ≡ false
not_accepted a x (event.Interface (ie.Lock i loss)) w tdi none = not_given (i == x.number) (carries w 3) _ none
not_accepted a x (event.Interface e) w tdi none = refl
not_accepted a x e w tdi none = refl

pub locks_stay : (plan : Plan) (h : History) (e : Event) (w : Verdict) (x : Site) → locks_it x e w ≡ false
    → locks_accepted plan ((e, w) ∷ h) x ≡ locks_accepted plan h x
unfolding devices
locks_stay plan h e w x none = rw (not_accepted (around_at_site plan h x) x e w (interface_at plan h x) none)
    (omega arith)
