-- What each device's interfaces are, over whole histories.
use Rattle.std.specs.Prelude.{ℕ, ◌+◌, ◌==◌, ◌&&◌, ◌||◌, ◌∷◌, Bool, true, false, not, if◌then◌else◌, List, [], Option}
use Rattle.std.specs.Prelude.{Some, None, is_ok}
use Rattle.spec_interfaces.specs.Terms.{list_any, Device, Plan, Event, InterfaceEvent, Verdict, History, history_status}
use Rattle.spec_interfaces.specs.Terms.{TdiState, Run, planned_registers, DeviceTdi, new_device_interface, lock_answer}
use Rattle.spec_interfaces.specs.Terms.{Call, Registers, LockInterface, StartInterface, StopInterface, WriteRegister}
use Rattle.spec_interfaces.specs.Terms.{LevelReset, FirmwareUpdate, StreamLeft, LinkReset, BindStream, UnbindStream}
use Rattle.spec_interfaces.specs.Terms.{interface_after_call, binds}
pub use Rattle.spec_interfaces.specs.Peers.{is_secure}
use Rattle.spec_interfaces.specs.Peers.{live_at, live_by_id, any_leaves}
use Rattle.spec_interfaces.specs.Sites.{Site, sites, nonce_behind}
use Rattle.spec_interfaces.specs.Exchanges.{carries, changes_device}
use Rattle.spec_interfaces.specs.Views.{managed_view, is_number, number_in}
use Rattle.script_events.specs.declared.event.Event.TheVariants as event
use Rattle.script_events.specs.declared.event.InterfaceEvent.TheVariants as ie
use Rattle.event_verdicts.specs.declared.verdict.Verdict.TheVariants as v

-- ---- what stands around an interface before an event

pub record Around : Type 0 where
  -- its stream is Secure at the device's port
  pub secure : Bool
  -- the device's next nonce
  pub drawn : Option (List ℕ)
  -- the nonce that the manager holds
  pub nonce : List ℕ
  -- the draw that is Live where the device receives posted requests on the stream between it and another that has an
  -- ID, if it has such a stream, and it is Secure there
  pub live : ℕ → Option ℕ

abbrev pub has_secure_stream : History → Site → Bool
has_secure_stream h x = is_secure (history_status h Device x.link x.plan.stream)

abbrev pub around : Plan → History → (ℕ → ℕ) → Site → Around
around plan h used x = record {
  secure = has_secure_stream h x;
  drawn = nonce_behind plan x.link (used x.link);
  nonce = (managed_view h x).nonce;
  live = live_by_id (live_at h) plan.peers x.link;
}

-- ---- what reaches it

abbrev pub interface_if_called : Bool → Call → DeviceTdi → DeviceTdi
interface_if_called true call tdi = interface_after_call tdi call
interface_if_called false call tdi = tdi

abbrev pub lock_call : Around → Site → Call
lock_call a x = LockInterface x.plan.flags x.plan.stream x.plan.offset a.secure a.drawn

-- by what it is asked, or written to
abbrev pub interface_asked : Around → Site → InterfaceEvent → Verdict → DeviceTdi → DeviceTdi
interface_asked a x (ie.Lock i loss) w tdi = interface_if_called (carries w 3) (lock_call a x) tdi
interface_asked a x (ie.Start i loss) w tdi = interface_if_called (carries w 1) (StartInterface a.nonce) tdi
interface_asked a x (ie.Halt i loss) w tdi = interface_if_called (carries w 1) StopInterface tdi
interface_asked a x (ie.Bind i line stream loss) w tdi =
    interface_if_called (carries w 1) (BindStream stream (a.live stream)) tdi
interface_asked a x (ie.Unbind i line stream loss) w tdi = interface_if_called (carries w 1) (UnbindStream stream) tdi
interface_asked a x (ie.Write i register value) w tdi = interface_if_called (changes_device w)
    (WriteRegister register value) tdi
interface_asked a x (ie.Flr i) w tdi = interface_if_called (changes_device w) LevelReset tdi
interface_asked a x (ie.Firmware i) w tdi = interface_if_called (changes_device w) FirmwareUpdate tdi
interface_asked a x e w tdi = tdi

-- by a reset of its own link, and of another that leaves a stream that it is bound to
abbrev pub reset_call : Bool → Call
reset_call true = LinkReset
reset_call false = StreamLeft

-- `left` says that a stream that it is bound to was Secure at the device before the pair, and is not after it
abbrev pub next_interface : Around → Bool → Site → Event → Verdict → DeviceTdi → DeviceTdi
next_interface a left x (event.Interface e) w tdi = if is_number (number_in e) x.number then interface_asked a x e w tdi
    else tdi
next_interface a left x (event.Reset link ends) (v.Reset l) tdi =
    interface_if_called ((link == x.link) || left) (reset_call (link == x.link)) tdi
next_interface a left x e w tdi = interface_if_called left StreamLeft tdi

-- the pair brings it a LOCK_INTERFACE that it accepts
abbrev pub accepts_lock : Around → Site → Event → Verdict → DeviceTdi → Bool
accepts_lock a x (event.Interface (ie.Lock i loss)) w tdi =
    (i == x.number) && carries w 3 && is_ok (lock_answer tdi x.plan.flags x.plan.offset a.secure a.drawn)
accepts_lock a x e w tdi = false

-- ---- all pairs

-- the interfaces, how often each was locked, and how many nonces the device of each link gave
pub record Devices : Type 0 where
  pub tdi : Site → DeviceTdi
  pub locks : Site → ℕ
  pub used : ℕ → ℕ

-- the stream of its link
abbrev pub leaves : History → Event → Verdict → Site → Bool
leaves h e w x = has_secure_stream h x && not (has_secure_stream ((e, w) ∷ h) x)

-- one that it is bound to
abbrev pub is_stream_left : Plan → History → Event → Verdict → Site → DeviceTdi → Bool
is_stream_left plan h e w x tdi =
    leaves h e w x
    || any_leaves (live_by_id (live_at h) plan.peers x.link) (live_by_id (live_at ((e, w) ∷ h)) plan.peers x.link)
    tdi.bindings

abbrev pub one_if : Bool → ℕ
one_if true = 1
one_if false = 0

abbrev pub is_lock_accepted : Plan → History → Devices → Event → Verdict → Site → Bool
is_lock_accepted plan h d e w x = accepts_lock (around plan h d.used x) x e w (d.tdi x)

abbrev pub devices_after : Plan → History → Devices → Event → Verdict → Devices
devices_after plan h d e w = record {
  tdi = λ x. next_interface (around plan h d.used x) (is_stream_left plan h e w x (d.tdi x)) x e w (d.tdi x);
  locks = λ x. d.locks x + one_if (is_lock_accepted plan h d e w x);
  used = λ link. d.used link + one_if (list_any (λ x. (x.link == link) && is_lock_accepted plan h d e w x)
      (sites plan));
}

unfoldable pub devices : Plan → History → Devices
devices plan [] = record { tdi = λ x. new_device_interface x.plan; locks = λ x. 0; used = λ link. 0 }
devices plan ((e, w) ∷ h) = devices_after plan h (devices plan h) e w

-- the interface
abbrev pub interface_at : Plan → History → Site → DeviceTdi
interface_at plan h x = (devices plan h).tdi x

-- how many LOCK_INTERFACE requests it accepted
abbrev pub locks_accepted : Plan → History → Site → ℕ
locks_accepted plan h x = (devices plan h).locks x

-- how many nonces the device of a link gave
abbrev pub used_at : Plan → History → ℕ → ℕ
used_at plan h link = (devices plan h).used link

abbrev pub around_at_site : Plan → History → Site → Around
around_at_site plan h x = around plan h (devices plan h).used x

-- its registers as they stood at the last LOCK_INTERFACE that it accepted
unfoldable pub registers_locked : Plan → History → Site → Registers
registers_locked plan [] x = planned_registers x.plan
registers_locked plan ((e, w) ∷ h) x =
    if is_lock_accepted plan h (devices plan h) e w x then (interface_at plan h x).registers
    else registers_locked plan h x

-- ---- T

abbrev pub is_run : TdiState → Bool
is_run (Run lock) = true
is_run _ = false

abbrev pub runs_at : Plan → History → Site → Bool
runs_at plan h x = is_run (interface_at plan h x).state

-- a device's port sets T on a stream if the TLP's owner is an interface in RUN that is bound to it
abbrev pub sets_t : Plan → History → ℕ → ℕ → Option Site → Bool
sets_t plan h link stream None = false
sets_t plan h link stream (Some x) = runs_at plan h x && (x.plan.stream == stream)

-- the interface is bound to the stream between its device and another that has this ID
abbrev pub is_bound_at : Plan → History → Site → ℕ → Bool
is_bound_at plan h x stream = binds stream (interface_at plan h x).bindings

-- an end of a stream between devices sets T if the TLP's owner is an interface in RUN that is bound to it
abbrev pub peer_t : Plan → History → Option Site → ℕ → Bool
peer_t plan h None stream = false
peer_t plan h (Some x) stream = runs_at plan h x && is_bound_at plan h x stream
