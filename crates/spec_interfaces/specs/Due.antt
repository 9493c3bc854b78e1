-- The one verdict that an event on a device interface gets after a history.
use Rattle.std.specs.Prelude.{ℕ, ◌+◌, ◌-◌, ◌/◌, ◌&&◌, Bool, true, false, nat_lt, nat_le, if◌then◌else◌, List, length}
use Rattle.std.specs.Prelude.{Option, Some, None, Result, Ok, Err}
use Rattle.spec_interfaces.specs.Terms.{option_map, Host, StreamStatus, Plan, View, Unlocked, Locked, Running}
use Rattle.spec_interfaces.specs.Terms.{InterfaceEvent, Loss, Verdict, History, draws, history_status, lost_at}
use Rattle.spec_interfaces.specs.Terms.{if_secure, Register, has_register, kept_report, DeviceTdi, state_code, lock_of}
use Rattle.spec_interfaces.specs.Terms.{lock_answer, bind_answer, unbind_answer, StreamStage, Idle, Up, op_of}
use Rattle.spec_interfaces.specs.Terms.{start_answer, Call, WriteRegister, LevelReset, FirmwareUpdate}
use Rattle.spec_interfaces.specs.Terms.{interface_after_call}
use Rattle.spec_interfaces.specs.Sites.{Site, site_at}
use Rattle.spec_interfaces.specs.Peers.{has_peer}
use Rattle.spec_interfaces.specs.Views.{Managed, managed_view, needs_then, stream_draw, number_in}
use Rattle.spec_interfaces.specs.Devices.{Around, around_at_site, interface_at}
use Rattle.ide_types.specs.declared.status.StreamStatus.TheVariants as status
use Rattle.script_events.specs.declared.event.InterfaceEvent.TheVariants as ie
use Rattle.event_verdicts.specs.declared.verdict.Verdict.TheVariants as v
use Rattle.ide_types.specs.declared.verdict.InterfaceVerdict.TheVariants as iv

-- the verdict of an operation whose last exchange has this number: this one, unless an exchange is lost
abbrev pub unless_lost : Option Loss → ℕ → Verdict → Verdict
unless_lost None last w = w
unless_lost (Some loss) last w =
    if nat_le 1 loss.exchange && nat_le loss.exchange last then lost_at loss.lost loss.exchange else w

-- ---- what stands when an interface is asked

pub record AskedState : Type 0 where
  pub around : Around
  -- at the device
  pub tdi : DeviceTdi
  -- at the manager
  pub managed : Managed
  -- its stream's state at the host's port, and the draw of its stream
  pub host : StreamStatus
  pub draw : ℕ
  -- how many draws were made
  pub drawn : ℕ
  -- of a stream between devices, by its line and its ID: the manager's state of it, and its draw
  pub peer_op : ℕ → ℕ → StreamStage
  pub peer_draw : ℕ → ℕ → ℕ

-- the bound stream's state at the host's port
abbrev pub host_status : History → Site → StreamStatus
host_status h x = history_status h Host x.link x.plan.stream

abbrev pub asked_state : Plan → History → Site → AskedState
asked_state plan h x = record {
  around = around_at_site plan h x;
  tdi = interface_at plan h x;
  managed = managed_view h x;
  host = host_status h x;
  draw = stream_draw h x.link x.plan.stream;
  drawn = draws h;
  peer_op = op_of h;
  peer_draw = stream_draw h;
}

-- ---- lock

abbrev pub if_unlocked : View → Verdict → Verdict
if_unlocked Unlocked w = w
if_unlocked view w = v.Interface (iv.RefusedWrongState view)

abbrev pub verdict_of_lock : Site → Result (List ℕ) ℕ → Verdict
verdict_of_lock x (Ok nonce) = v.Interface (iv.Locked x.number nonce)
verdict_of_lock x (Err code) = v.RefusedDevice 3 code

abbrev pub lock_answer_at : Around → Site → DeviceTdi → Result (List ℕ) ℕ
lock_answer_at a x tdi = lock_answer tdi x.plan.flags x.plan.offset a.secure a.drawn

abbrev pub lock_due : Site → AskedState → Option Loss → Verdict
lock_due x s loss =
    if_unlocked s.managed.view
    (if_secure s.host (unless_lost loss 3 (verdict_of_lock x (lock_answer_at s.around x s.tdi))))

-- ---- report

abbrev pub if_locked_or_running : View → Verdict → Verdict
if_locked_or_running Locked w = w
if_locked_or_running Running w = w
if_locked_or_running view w = v.Interface (iv.RefusedWrongState view)

-- how many requests for so many bytes read a report of this length, offset 0 first
abbrev pub portions : ℕ → ℕ → ℕ
portions size len = (len + size - 1) / size

abbrev pub report_verdict : Plan → Site → Option Loss → Option (List ℕ) → Verdict
report_verdict plan x loss None = unless_lost loss 1 (v.RefusedDevice 1 4)
report_verdict plan x loss (Some report) =
    unless_lost loss (portions plan.portion (length report)) (v.Interface (iv.Reported x.number report))

abbrev pub report_due : Plan → Site → AskedState → Option Loss → Verdict
report_due plan x s loss =
    if_locked_or_running s.managed.view
    (report_verdict plan x loss (option_map (kept_report x.plan) (lock_of s.tdi.state)))

-- ---- start

abbrev pub if_locked : View → Verdict → Verdict
if_locked Locked w = w
if_locked view w = v.Interface (iv.RefusedWrongState view)

abbrev pub if_reported : Bool → Verdict → Verdict
if_reported true w = w
if_reported false w = v.Interface iv.RefusedNotReported

abbrev pub if_fresh : ℕ → ℕ → Verdict → Verdict
if_fresh draw needs w = if nat_lt draw needs then v.Interface (iv.RefusedRefreshFirst draw needs) else w

abbrev pub started_as : Site → ℕ → Result (Unit {0}) ℕ → Verdict
started_as x draw (Ok done) = v.Interface (iv.Started x.number draw)
started_as x draw (Err code) = v.RefusedDevice 1 code

abbrev pub start_due : Site → AskedState → Option Loss → Verdict
start_due x s loss =
    if_locked s.managed.view (if_reported s.managed.reported (if_secure s.host (if_fresh s.draw s.managed.needs
    (unless_lost loss 1 (started_as x s.draw (start_answer s.tdi.state s.managed.nonce))))))

-- ---- bind, unbind

-- as the manager has a stream between devices
abbrev pub op_status : StreamStage → StreamStatus
op_status (Up set draw) = status.Secure
op_status Idle = status.Idle
op_status o = status.Partial

abbrev pub verdict_of_bind : Site → ℕ → Result ℕ ℕ → Verdict
verdict_of_bind x line (Ok draw) = v.Interface (iv.Bound x.number line)
verdict_of_bind x line (Err code) = v.RefusedDevice 1 code

abbrev pub bind_due : Site → AskedState → ℕ → ℕ → Option Loss → Verdict
bind_due x s line stream loss =
    if_locked_or_running s.managed.view
    (if_secure (op_status (s.peer_op line stream)) (if_fresh (s.peer_draw line stream) s.managed.needs
    (unless_lost loss 1 (verdict_of_bind x line (bind_answer s.tdi stream (s.around.live stream))))))

abbrev pub unbound_as : Site → ℕ → Result (Unit {0}) ℕ → Verdict
unbound_as x line (Ok done) = v.Interface (iv.Unbound x.number line)
unbound_as x line (Err code) = v.RefusedDevice 1 code

abbrev pub unbind_due : Site → AskedState → ℕ → ℕ → Option Loss → Verdict
unbind_due x s line stream loss =
    if_locked_or_running s.managed.view (unless_lost loss 1 (unbound_as x line (unbind_answer s.tdi stream)))

-- ---- halt, state

abbrev pub halt_due : Site → AskedState → Option Loss → Verdict
halt_due x s loss = unless_lost loss 1 (v.Interface (iv.Halted x.number (needs_then s.managed s.drawn)))

abbrev pub state_due : Site → AskedState → Option Loss → Verdict
state_due x s loss = unless_lost loss 1 (v.Interface (iv.State x.number (state_code s.tdi.state)))

-- ---- what is done to the device: each shows the state after it

abbrev pub code_after : DeviceTdi → Call → ℕ
code_after tdi call = state_code (interface_after_call tdi call).state

abbrev pub write_due : Site → DeviceTdi → Register → ℕ → Verdict
write_due x tdi register value =
    if has_register x.plan register then v.Interface
    (iv.Written x.number (code_after tdi (WriteRegister register value)))
    else v.Nothing

-- ---- all of them

abbrev pub asked_due : Plan → Site → AskedState → InterfaceEvent → Verdict
asked_due plan x s (ie.Lock i loss) = lock_due x s loss
asked_due plan x s (ie.Report i loss) = report_due plan x s loss
asked_due plan x s (ie.Start i loss) = start_due x s loss
asked_due plan x s (ie.Halt i loss) = halt_due x s loss
asked_due plan x s (ie.State i loss) = state_due x s loss
asked_due plan x s (ie.Bind i line stream loss) =
    if has_peer plan.peers x.link line stream then bind_due x s line stream loss else v.Nothing
asked_due plan x s (ie.Unbind i line stream loss) =
    if has_peer plan.peers x.link line stream then unbind_due x s line stream loss else v.Nothing
asked_due plan x s (ie.View i) = v.Interface (iv.View x.number s.managed.view)
asked_due plan x s (ie.Write i register value) = write_due x s.tdi register value
asked_due plan x s (ie.Flr i) = v.Interface (iv.Flr x.number (code_after s.tdi LevelReset))
asked_due plan x s (ie.Firmware i) = v.Interface (iv.Firmware x.number (code_after s.tdi FirmwareUpdate))
asked_due plan x s (ie.Memory at len) = v.Nothing

abbrev pub interface_due : Plan → History → Site → InterfaceEvent → Verdict
interface_due plan h x e = asked_due plan x (asked_state plan h x) e

abbrev pub on_site : (Site → Verdict) → Option Site → Verdict
on_site f None = v.Nothing
on_site f (Some x) = f x

abbrev pub with_number : Plan → History → InterfaceEvent → Option ℕ → Verdict → Verdict
with_number plan h e None given = given
with_number plan h e (Some i) given = on_site (λ x. interface_due plan h x e) (site_at plan i)

-- the verdict that is due; if the event names no interface it is given
unfoldable pub interface_verdict_due : Plan → History → InterfaceEvent → Verdict → Verdict
interface_verdict_due plan h e given = with_number plan h e (number_in e) given
