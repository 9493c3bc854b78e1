-- The manager's views of interfaces, and what moves them (this profile).
use Rattle.std.specs.Prelude.{ℕ, Bool, true, false, ◌&&◌, nat_lt, ◌==◌, List, replicate, slice_get, slice_set, ◌-◌}
use Rattle.std.specs.Prelude.{unwrap_or, Option, Some, None, Result, Ok, Err, if◌then◌else◌}
use Rattle.ide_types.specs.declared.binding.Binding.{Binding}
use Rattle.ide_types.specs.declared.status.StreamStatus.{StreamStatus}
use Rattle.ide_types.specs.declared.status.StreamStatus.TheVariants as status
use Rattle.ide_types.specs.declared.interface.InterfacePlan.{InterfacePlan}
use Rattle.ide_types.specs.declared.view.View.{View}
use Rattle.ide_types.specs.declared.view.View.TheVariants as view
use Rattle.tdisp_codec.specs.declared.request.RequestView.{RequestView}
use Rattle.tdisp_codec.specs.declared.request.RequestView.TheVariants as request
use Rattle.interface_host.specs.declared.operation.InterfaceOperation.{InterfaceOperation}
use Rattle.interface_host.specs.declared.operation.InterfaceOperation.TheVariants as op
use Rattle.interface_host.specs.declared.operation.InterfaceOutcome.{InterfaceOutcome}
use Rattle.interface_host.specs.declared.operation.InterfaceOutcome.TheVariants as outcome
use Rattle.interface_host.specs.declared.operation.InterfaceRefusal.{InterfaceRefusal}
use Rattle.interface_host.specs.declared.operation.InterfaceRefusal.TheVariants.{WrongState, NotReported, NotSecure}
use Rattle.interface_host.specs.declared.operation.InterfaceRefusal.TheVariants.{RefreshFirst}
use Rattle.interface_host.specs.declared.operation.InterfaceRefusal.TheVariants.{SessionLost, DeviceRefused, BadReply}
use Rattle.interface_host.specs.declared.operation.InterfaceResult.TheVariants as shown
use Rattle.interface_host.specs.declared.managed.ManagedTdi.{ManagedTdi}
use Rattle.interface_host.specs.declared.managed.ManagedTdi.TheVariants as managed
use Rattle.interface_host.specs.declared.step.Step.{Step}
use Rattle.interface_host.specs.declared.step.Step.TheVariants as step
use Rattle.interface_host.specs.Judging.{JudgedAnswer, Passed, Nonce, Portion, State, Refused, Lost}

-- ---- what is kept of a view: of a lock its nonce and whether its report was read, of a run its floor

pub data Seen : Type 0 where
  IsUnlocked : Seen
  IsLocked : List ℕ → Bool → Seen
  IsRunning : ℕ → Seen
  IsDoubt : Seen
  IsBroken : Seen

abbrev pub seen_of_managed : ManagedTdi → Seen
seen_of_managed (managed.Unlocked tdi) = IsUnlocked
seen_of_managed (managed.Locked tdi) = IsLocked tdi.state.nonce tdi.state.is_reported
seen_of_managed (managed.Running tdi) = IsRunning tdi.state.floor
seen_of_managed (managed.Doubt tdi) = IsDoubt
seen_of_managed (managed.Broken tdi) = IsBroken

-- a view that a move has taken, which no interface is without after it, counts as broken
abbrev pub seen_of_held : Option ManagedTdi → Seen
seen_of_held None = IsBroken
seen_of_held (Some m) = seen_of_managed m

abbrev pub view_of : Seen → View
view_of IsUnlocked = view.Unlocked
view_of (IsLocked nonce is_reported) = view.Locked
view_of (IsRunning floor) = view.Running
view_of IsDoubt = view.Doubt
view_of IsBroken = view.Broken

-- the nonce that starts it; 32 zero bytes stand for none
abbrev pub nonce_of : Seen → List ℕ
nonce_of (IsLocked nonce is_reported) = nonce
nonce_of s = replicate 32 0

-- of a run alone
abbrev pub floor_of : Seen → Option ℕ
floor_of (IsRunning floor) = Some floor
floor_of s = None

-- ---- an interface, for the manager

-- Its link's number, its requester ID, the ID of its bound stream, the flags and the offset of its lock requests; the
-- draw of that stream; the least draw that a start wants; whether START_INTERFACE was asked since LOCK_INTERFACE was
-- asked last; the view; of each stream between devices, whether BIND_P2P was asked since LOCK_INTERFACE was.
pub record HostTdi : Type 0 where
  pub link : ℕ
  pub requester : ℕ
  pub stream : ℕ
  pub flags : ℕ
  pub offset : ℕ
  pub draw : ℕ
  pub needs : ℕ
  pub was_started : Bool
  pub seen : Seen
  pub asked : List Bool

abbrev pub new_interface : ℕ → InterfacePlan → HostTdi
new_interface link plan = record {
  link = link;
  requester = plan.requester;
  stream = plan.stream;
  flags = plan.flags;
  offset = plan.offset;
  draw = 0;
  needs = 0;
  was_started = false;
  seen = IsUnlocked;
  asked = replicate 8 false;
}

-- ---- begin: refusals, in order

abbrev pub interface_unless_secure : StreamStatus → Option InterfaceRefusal → Option InterfaceRefusal
interface_unless_secure status.Secure refusal = refusal
interface_unless_secure s refusal = Some (NotSecure s)

abbrev pub lock_refusal : StreamStatus → Seen → Option InterfaceRefusal
lock_refusal s IsUnlocked = interface_unless_secure s None
lock_refusal s v = Some (WrongState (view_of v))

abbrev pub report_refusal : Seen → Option InterfaceRefusal
report_refusal (IsLocked nonce is_reported) = None
report_refusal (IsRunning floor) = None
report_refusal v = Some (WrongState (view_of v))

abbrev pub key_refusal : ℕ → ℕ → Option InterfaceRefusal
key_refusal draw needs = if nat_lt draw needs then Some (RefreshFirst draw needs) else None

abbrev pub start_refusal : StreamStatus → ℕ → ℕ → Seen → Option InterfaceRefusal
start_refusal s draw needs (IsLocked nonce is_reported) =
    if is_reported then interface_unless_secure s (key_refusal draw needs) else Some NotReported
start_refusal s draw needs v = Some (WrongState (view_of v))

-- of a stream between devices with this status and draw
abbrev pub bind_refusal : StreamStatus → ℕ → ℕ → Seen → Option InterfaceRefusal
bind_refusal s draw needs (IsLocked nonce is_reported) = interface_unless_secure s (key_refusal draw needs)
bind_refusal s draw needs (IsRunning floor) = interface_unless_secure s (key_refusal draw needs)
bind_refusal s draw needs v = Some (WrongState (view_of v))

-- if its stream has this status at the host's port; of bind, if the manager of keys has the stream so
abbrev pub interface_refusal_of : InterfaceOperation → StreamStatus → HostTdi → Option InterfaceRefusal
interface_refusal_of op.Lock s i = lock_refusal s i.seen
interface_refusal_of op.Report s i = report_refusal i.seen
interface_refusal_of op.Start s i = start_refusal s i.draw i.needs i.seen
interface_refusal_of op.Halt s i = None
interface_refusal_of op.State s i = None
interface_refusal_of (op.Bind peer) s i = bind_refusal s peer.draw i.needs i.seen
interface_refusal_of (op.Unbind peer) s i = report_refusal i.seen

abbrev pub interface_ok_unless : Option InterfaceRefusal → Result (Unit {0}) InterfaceRefusal
interface_ok_unless None = Ok tt
interface_ok_unless (Some refusal) = Err refusal

-- a refusal changes nothing
abbrev pub interface_unless : {A : Type 0} → Option InterfaceRefusal → A → A → A
interface_unless None old new = new
interface_unless (Some refusal) old new = old

-- ---- ask

-- The request of an exchange: the function ID is the requester ID, of segment 0, not valid; the P2P mask is 0. Of a
-- report, `portion` bytes are asked after the `read` that were read before.
abbrev pub step_request : Step → ℕ → ℕ → HostTdi → RequestView
step_request step.Version portion read i = request.GetVersion i.requester
step_request step.Capabilities portion read i = request.GetCapabilities i.requester
step_request step.Lock portion read i = request.LockInterface i.requester i.flags i.stream i.offset 0
step_request step.Report portion read i = request.GetDeviceInterfaceReport i.requester read portion
step_request step.Start portion read i = request.StartInterface i.requester (nonce_of i.seen)
step_request step.Halt portion read i = request.StopInterface i.requester
step_request step.State portion read i = request.GetDeviceInterfaceState i.requester
step_request (step.Bind peer) portion read i = request.BindP2p i.requester peer.id
step_request (step.Unbind peer) portion read i = request.UnbindP2p i.requester peer.id

-- ---- take: the view

abbrev pub seen_after_lock : List ℕ → Seen → Seen
seen_after_lock nonce IsUnlocked = IsLocked nonce false
seen_after_lock nonce v = v

abbrev pub reported_view : Seen → Seen
reported_view (IsLocked nonce is_reported) = IsLocked nonce true
reported_view v = v

abbrev pub started_view : ℕ → Seen → Seen
started_view draw (IsLocked nonce is_reported) = IsRunning draw
started_view draw v = v

-- the device's state, by its code, is not the one that the view wants
abbrev pub compared_view : ℕ → Seen → Seen
compared_view code (IsLocked nonce is_reported) = if code == 1 then IsLocked nonce is_reported else IsBroken
compared_view code (IsRunning floor) = if code == 2 then IsRunning floor else IsBroken
compared_view code v = v

-- a loss leaves Doubt, a refusal the view
abbrev pub after_lock : JudgedAnswer → Seen → Seen
after_lock (Nonce nonce) v = seen_after_lock nonce v
after_lock (Refused code) v = v
after_lock judged v = IsDoubt

-- the last portion has no remainder
abbrev pub after_report : JudgedAnswer → Seen → Seen
after_report (Portion bytes remainder) v = if remainder == 0 then reported_view v else v
after_report judged v = v

abbrev pub seen_after_start : ℕ → JudgedAnswer → Seen → Seen
seen_after_start draw Passed v = started_view draw v
seen_after_start draw (Refused code) v = IsBroken
seen_after_start draw judged v = IsDoubt

abbrev pub after_halt : JudgedAnswer → Seen → Seen
after_halt Passed v = IsUnlocked
after_halt (Refused code) v = v
after_halt judged v = IsDoubt

abbrev pub after_state : JudgedAnswer → Seen → Seen
after_state (State code) v = compared_view code v
after_state judged v = v

abbrev pub seen_after_step : Step → ℕ → JudgedAnswer → Seen → Seen
seen_after_step step.Version draw judged v = v
seen_after_step step.Capabilities draw judged v = v
seen_after_step step.Lock draw judged v = after_lock judged v
seen_after_step step.Report draw judged v = after_report judged v
seen_after_step step.Start draw judged v = seen_after_start draw judged v
seen_after_step step.Halt draw judged v = after_halt judged v
seen_after_step step.State draw judged v = after_state judged v
seen_after_step (step.Bind peer) draw judged v = v
seen_after_step (step.Unbind peer) draw judged v = v

-- ---- take: the key that a start wants

-- whether START_INTERFACE was asked since LOCK_INTERFACE was, after this exchange
abbrev pub was_started_after : Step → Bool → Bool
was_started_after step.Lock was_started = false
was_started_after step.Start was_started = true
was_started_after s was_started = was_started

-- a halt that ends after a start wants a key that was not drawn yet; `draws` were
abbrev pub needs_after : Step → ℕ → JudgedAnswer → Bool → ℕ → ℕ
needs_after step.Halt draws Passed was_started needs = if was_started then draws else needs
needs_after s draws judged was_started needs = needs

-- ---- take: the streams between devices whose BIND_P2P was asked since LOCK_INTERFACE was, after this exchange

-- lines from 24 on are these streams, by their number
abbrev pub peer_number : ℕ → ℕ
peer_number line = line - 24

abbrev pub asked_peers : Step → List Bool → List Bool
asked_peers step.Lock asked = replicate 8 false
asked_peers (step.Bind peer) asked = slice_set asked (peer_number peer.line) true
asked_peers s asked = asked

abbrev pub taken_interface : Step → ℕ → JudgedAnswer → HostTdi → HostTdi
taken_interface s draws judged i = record i {
  needs = needs_after s draws judged i.was_started i.needs;
  was_started = was_started_after s i.was_started;
  seen = seen_after_step s i.draw judged i.seen;
  asked = asked_peers s i.asked;
}

-- ---- take: its outcome

-- the operation is over; what is neither expected nor a refusal is a bad reply
abbrev pub refused_outcome : ℕ → JudgedAnswer → InterfaceOutcome
refused_outcome exchange Lost = outcome.Refused (SessionLost exchange)
refused_outcome exchange (Refused code) = outcome.Refused (DeviceRefused exchange code)
refused_outcome exchange judged = outcome.Refused (BadReply exchange)

abbrev pub next_or_refused : ℕ → JudgedAnswer → InterfaceOutcome
next_or_refused exchange Passed = outcome.Next
next_or_refused exchange judged = refused_outcome exchange judged

abbrev pub lock_outcome : ℕ → JudgedAnswer → InterfaceOutcome
lock_outcome exchange (Nonce nonce) = outcome.Done (shown.Nonce nonce)
lock_outcome exchange judged = refused_outcome exchange judged

abbrev pub report_outcome : ℕ → JudgedAnswer → InterfaceOutcome
report_outcome exchange (Portion bytes remainder) = if remainder == 0 then outcome.Done shown.Report else outcome.Next
report_outcome exchange judged = refused_outcome exchange judged

abbrev pub start_outcome : ℕ → ℕ → JudgedAnswer → InterfaceOutcome
start_outcome exchange draw Passed = outcome.Done (shown.Draw draw)
start_outcome exchange draw judged = refused_outcome exchange judged

abbrev pub halt_outcome : ℕ → ℕ → JudgedAnswer → InterfaceOutcome
halt_outcome exchange needs Passed = outcome.Done (shown.Needs needs)
halt_outcome exchange needs judged = refused_outcome exchange judged

abbrev pub state_outcome : ℕ → JudgedAnswer → InterfaceOutcome
state_outcome exchange (State code) = outcome.Done (shown.State code)
state_outcome exchange judged = refused_outcome exchange judged

abbrev pub bind_outcome : ℕ → ℕ → JudgedAnswer → InterfaceOutcome
bind_outcome exchange line Passed = outcome.Done (shown.Bound line)
bind_outcome exchange line judged = refused_outcome exchange judged

abbrev pub unbind_outcome : ℕ → ℕ → JudgedAnswer → InterfaceOutcome
unbind_outcome exchange line Passed = outcome.Done (shown.Unbound line)
unbind_outcome exchange line judged = refused_outcome exchange judged

-- `after` is the interface after the exchange
abbrev pub interface_outcome : Step → ℕ → JudgedAnswer → HostTdi → InterfaceOutcome
interface_outcome step.Version exchange judged after = next_or_refused exchange judged
interface_outcome step.Capabilities exchange judged after = next_or_refused exchange judged
interface_outcome step.Lock exchange judged after = lock_outcome exchange judged
interface_outcome step.Report exchange judged after = report_outcome exchange judged
interface_outcome step.Start exchange judged after = start_outcome exchange after.draw judged
interface_outcome step.Halt exchange judged after = halt_outcome exchange after.needs judged
interface_outcome step.State exchange judged after = state_outcome exchange judged
interface_outcome (step.Bind peer) exchange judged after = bind_outcome exchange peer.line judged
interface_outcome (step.Unbind peer) exchange judged after = unbind_outcome exchange peer.line judged

-- ---- what breaks views

-- Locked, Running and Doubt become Broken
abbrev pub broken_view : Seen → Seen
broken_view IsUnlocked = IsUnlocked
broken_view v = IsBroken

abbrev pub is_bound_to : ℕ → ℕ → HostTdi → Bool
is_bound_to link stream i = (i.link == link) && (i.stream == stream)

-- a stop of this stream began
abbrev pub left_by_stop : ℕ → ℕ → HostTdi → HostTdi
left_by_stop link stream i = if is_bound_to link stream i then record i { seen = broken_view i.seen } else i

abbrev pub is_asked : ℕ → List Bool → Bool
is_asked number asked = unwrap_or (slice_get asked number) false

-- an event of a stop of the stream between devices of this number
abbrev pub left_by_peer_stop : ℕ → HostTdi → HostTdi
left_by_peer_stop number i = if is_asked number i.asked then record i { seen = broken_view i.seen } else i

-- this is the stream's draw from now on
abbrev pub keyed_by : ℕ → ℕ → ℕ → HostTdi → HostTdi
keyed_by link stream draw i = if is_bound_to link stream i then record i { draw = draw } else i

-- the link was reset
abbrev pub left_by_reset : ℕ → HostTdi → HostTdi
left_by_reset link i = if i.link == link then record i { seen = broken_view i.seen } else i

-- ---- grants

abbrev pub is_running : Seen → Bool
is_running (IsRunning floor) = true
is_running v = false

-- it is on this link, and has this requester ID
abbrev pub is_requester : ℕ → ℕ → HostTdi → Bool
is_requester link requester i = (i.link == link) && (i.requester == requester)

abbrev pub is_granted : ℕ → ℕ → HostTdi → Bool
is_granted link requester i = is_requester link requester i && is_running i.seen

-- the bound stream and the floor of a run
abbrev pub grant_by : ℕ → Option ℕ → Option Binding
grant_by stream None = None
grant_by stream (Some floor) = Some (record { stream = stream; floor = floor })

abbrev pub interface_grant : HostTdi → Option Binding
interface_grant i = grant_by i.stream (floor_of i.seen)
