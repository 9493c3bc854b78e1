-- What an event makes of what stands beside the ports: the devices' interfaces, the manager's with the draws of streams
-- between devices, and trusted memory.
use Rattle.std.specs.Prelude.{ℕ, ◌≡◌, ◌<◌, ◌≤◌, ◌==◌, ◌&&◌, Bool, true, false, not, List, length, slice_get, slice_set}
use Rattle.std.specs.Prelude.{nat_le, Option, Some, None, if◌then◌else◌}
use Rattle.ide_types.specs.Lines.{is_link_line}
use Rattle.ide_types.specs.declared.plan.Plan.{Plan}
use Rattle.ide_types.specs.RegisterNames.{has_register}
use Rattle.spec_interfaces.specs.Views.{peer_of}
use Rattle.script_events.specs.declared.event.Event.{Event}
use Rattle.script_events.specs.declared.event.Event.TheVariants as event
use Rattle.script_events.specs.declared.event.InterfaceEvent.{InterfaceEvent}
use Rattle.script_events.specs.declared.event.InterfaceEvent.TheVariants as ie
use Rattle.script_events.specs.declared.event.Loss.{Loss}
use Rattle.event_verdicts.specs.declared.verdict.Operation.{Operation}
use Rattle.event_verdicts.specs.declared.verdict.Operation.TheVariants as operation
use Rattle.event_verdicts.specs.declared.verdict.Verdict.{Verdict}
use Rattle.event_verdicts.specs.declared.verdict.Verdict.TheVariants as v
use Rattle.spec_keys.specs.History.{History}
use Rattle.spec_keys.specs.Operations.{StreamStage, work_of}
use Rattle.spec_links.specs.History.{ArrivedBytes}
use Rattle.machine_ports.specs.Machine.{LinkState}
use Rattle.machine_ports.specs.Stands.{PortsStandFor}
use Rattle.key_host.specs.Managers.{Named, named_stream}
use Rattle.interface_state.specs.Machine.{DeviceTdi, Call, WriteRegister, LevelReset, FirmwareUpdate}
use Rattle.interface_ends.specs.Replies.{DeviceTdis, settled_interfaces, reset_device_interfaces, called_at}
use Rattle.interface_host.specs.declared.operation.InterfaceOperation.{InterfaceOperation}
use Rattle.interface_host.specs.declared.operation.InterfaceOperation.TheVariants as op
use Rattle.interface_host.specs.Views.{HostTdi}
use Rattle.interface_host.specs.Managers.{stream_keyed, peer_stop, reset_interface_manager}
use Rattle.trusted_memory.specs.{Leads}
use Rattle.line_arrivals.specs.{secure_or_live, LinkEnds, InterfacesView, keyed_if, stopped_if, operated_on}
use Rattle.line_arrivals.specs.{arrival_of, writes_by, grants_in, EndsView, peer_live, stream_named, AreLinks}
pub use Rattle.line_arrivals.specs.Follows.{IsSettledOrSame, AllFollow}
use Rattle.all_links.specs.declared.links.Links.{Links}
use Rattle.all_links.specs.Interfaces.{interface_named, has_peer_in, managed_peer_stream}
use Rattle.all_links.specs.States.{links_state}

-- ---- nothing

-- neither manager, nor any device's interfaces, nor memory
pub record BesideStays (old new : Links) : Type 0 where
  pub keeper : new.keeper.interfaces ≡ old.keeper.interfaces
  pub peer_draws : new.keeper.peer_draws ≡ old.keeper.peer_draws
  pub devices : (i : ℕ) (l l' : LinkEnds) → slice_get old.ends.links i ≡ Some l → slice_get new.ends.links i ≡ Some l'
      → l'.device.interfaces ≡ l.device.interfaces
  pub contents : new.trusted.contents ≡ old.trusted.contents

-- ---- arrivals

pub record BesideArrival (plan : Plan) (arrival : LinkState → Option ArrivedBytes) (verdict : Verdict) (old new : Links)
    :
    Type 0 where
  pub keeper : new.keeper.interfaces ≡ old.keeper.interfaces
  pub peer_draws : new.keeper.peer_draws ≡ old.keeper.peer_draws
  pub devices : (h : History) → AreLinks plan old.ends old.keeper.keys → PortsStandFor plan (links_state plan old) h
      → AllFollow old.ends new.ends
  pub contents : (h : History) → AreLinks plan old.ends old.keeper.keys → PortsStandFor plan (links_state plan old) h
      → old.trusted.contents.regions ≡ plan.memory
      → Leads old.trusted.contents (writes_by plan (grants_in old.keeper.interfaces) (links_state plan old)
      (arrival (links_state plan old)) verdict) new.trusted.contents

-- ---- operations on streams

-- there is such an operation on the line: a refresh is of a link's stream alone
abbrev pub works_on : Operation → ℕ → Bool
works_on operation.Refresh line = is_link_line line
works_on o line = true

-- what an operation on a stream of a link tells the manager of interfaces: an establish that drew and a refresh at its
-- end give the stream its draw, a stop that begins breaks views; the manager's operation on the stream was this one,
-- and so many draws were made before it and after it
abbrev pub told_by_link : Operation → ℕ → ℕ → StreamStage → ℕ → ℕ → Verdict → InterfacesView → InterfacesView
told_by_link operation.Establish link stream q before after verdict m =
    keyed_if (not (after == before)) link stream before m
told_by_link operation.Refresh link stream q before after (v.Refreshed l s draw) m = stream_keyed link stream draw m
told_by_link operation.Refresh link stream q before after verdict m = m
told_by_link operation.Stop link stream q before after verdict m =
    stopped_if (work_of operation.Stop q 0).begins link stream m

-- one on a stream between devices: each stop breaks the views of interfaces for which a binding to it was asked
abbrev pub told_by_peer : Operation → ℕ → InterfacesView → InterfacesView
told_by_peer operation.Stop line m = peer_stop (peer_of line) m
told_by_peer o line m = m

-- one on any line; one of a hop tells nothing
abbrev pub told_on_line : Operation → ℕ → ℕ → StreamStage → ℕ → ℕ → Verdict → InterfacesView → InterfacesView
told_on_line o line stream q before after verdict m =
    if is_link_line line then told_by_link o line stream q before after verdict m
    else if nat_le 24 line then told_by_peer o line m else m

-- the draws of the streams between devices, by number: an establish that drew gives its stream the draw
abbrev pub peers_drawn : Operation → ℕ → ℕ → ℕ → List ℕ → List ℕ
peers_drawn operation.Establish line before after draws =
    if nat_le 24 line && not (after == before) then slice_set draws (peer_of line) before else draws
peers_drawn o line before after draws = draws

pub record BesideOperation (o : Operation) (line stream : ℕ) (verdict : Verdict) (old new : Links) : Type 0 where
  pub devices : AllFollow old.ends new.ends
  pub contents : new.trusted.contents ≡ old.trusted.contents
  pub unnamed : stream_named old.keeper.keys.manager old.ends line stream ≡ None
      → (new.keeper.interfaces ≡ old.keeper.interfaces) × (new.keeper.peer_draws ≡ old.keeper.peer_draws)
  pub told : (n : Named) → stream_named old.keeper.keys.manager old.ends line stream ≡ Some (line, stream)
      → named_stream old.keeper.keys.manager line stream ≡ Some n
      → new.keeper.interfaces ≡ told_on_line o line stream n.stream.op old.keeper.keys.pool.draws
      new.keeper.keys.pool.draws verdict old.keeper.interfaces
  pub drawn : (n : Named) → stream_named old.keeper.keys.manager old.ends line stream ≡ Some (line, stream)
      → named_stream old.keeper.keys.manager line stream ≡ Some n → new.keeper.peer_draws
      ≡ peers_drawn o line old.keeper.keys.pool.draws new.keeper.keys.pool.draws old.keeper.peer_draws

-- ---- a reset

-- the interfaces of the link's own device are reset
abbrev pub reset_if : Bool → DeviceTdis → DeviceTdis
reset_if own d = if own then reset_device_interfaces d else d

pub record BesideReset (link : ℕ) (old new : Links) : Type 0 where
  pub contents : new.trusted.contents ≡ old.trusted.contents
  pub peer_draws : new.keeper.peer_draws ≡ old.keeper.peer_draws
  pub devices : link < length old.ends.links → (i : ℕ) (l l' : LinkEnds) → slice_get old.ends.links i ≡ Some l
      → slice_get new.ends.links i ≡ Some l' → l'.device.interfaces
      ≡ settled_interfaces (secure_or_live l'.device.port (peer_live new.ends i))
      (reset_if (i == link) l.device.interfaces)
  pub keeper : link < length old.ends.links → new.keeper.interfaces ≡ reset_interface_manager link old.keeper.interfaces
  pub absent : length old.ends.links ≤ link → BesideStays old new

-- ---- events on interfaces

-- the ends with the interfaces of a device changed
abbrev pub with_device : EndsView → ℕ → LinkEnds → DeviceTdis → EndsView
with_device v link l d =
    record v { links = slice_set v.links link (record l { device = record l.device { interfaces = d } }) }

-- the manager and the device's interfaces after an operation of the manager on an interface
pub record BesideAsking (number : ℕ) (o : InterfaceOperation) (loss : Option Loss) (old new : Links) : Type 0 where
  pub contents : new.trusted.contents ≡ old.trusted.contents
  pub peer_draws : new.keeper.peer_draws ≡ old.keeper.peer_draws
  pub unnamed : interface_named old.keeper.interfaces old.ends.links number ≡ None → BesideStays old new
  pub asked : (at : ℕ × ℕ) (l : LinkEnds) (x : HostTdi)
      → interface_named old.keeper.interfaces old.ends.links number ≡ Some at
      → slice_get old.ends.links at.0 ≡ Some l → slice_get old.keeper.interfaces.interfaces number ≡ Some x
      → let e = operated_on number o loss old.keeper.keys (peer_live old.ends at.0) old.keeper.interfaces l x in
      (new.keeper.interfaces ≡ e.manager) × (new.ends ≡ with_device old.ends at.0 l e.device)

-- of one on a stream between devices, if there is such an interface, and its device has the stream; its ID is a byte
pub record BesideBinding (number line stream : ℕ) (o : InterfaceOperation) (loss : Option Loss) (old new : Links) : Type
    0
  where
    pub late : 256 ≤ stream → BesideStays old new
    pub absent : has_peer_in old.keeper old.ends number line stream ≡ false → BesideStays old new
    pub asked : stream < 256 → has_peer_in old.keeper old.ends number line stream ≡ true
        → BesideAsking number o loss old new

-- a call of one interface of a device, if it meets a test
abbrev pub called_if : (DeviceTdi → Bool) → LinkEnds → ℕ → DeviceTdi → Call → LinkEnds
called_if test l place tdi call =
    if test tdi then record l { device = record l.device { interfaces = called_at l.device.interfaces place tdi call } }
    else l

pub record BesideCall (number : ℕ) (test : DeviceTdi → Bool) (call : Call) (old new : Links) : Type 0 where
  pub keeper : new.keeper.interfaces ≡ old.keeper.interfaces
  pub peer_draws : new.keeper.peer_draws ≡ old.keeper.peer_draws
  pub contents : new.trusted.contents ≡ old.trusted.contents
  pub unnamed : interface_named old.keeper.interfaces old.ends.links number ≡ None → BesideStays old new
  pub called : (at : ℕ × ℕ) (l : LinkEnds) (tdi : DeviceTdi)
      → interface_named old.keeper.interfaces old.ends.links number ≡ Some at
      → slice_get old.ends.links at.0 ≡ Some l → slice_get l.device.interfaces.interfaces at.1 ≡ Some tdi
      → new.ends ≡ record old.ends { links = slice_set old.ends.links at.0 (called_if test l at.1 tdi call) }

abbrev pub BesideInterface : InterfaceEvent → Links → Links → Type 0
BesideInterface (ie.Lock i loss) old new = BesideAsking i op.Lock loss old new
BesideInterface (ie.Report i loss) old new = BesideAsking i op.Report loss old new
BesideInterface (ie.Start i loss) old new = BesideAsking i op.Start loss old new
BesideInterface (ie.Halt i loss) old new = BesideAsking i op.Halt loss old new
BesideInterface (ie.State i loss) old new = BesideAsking i op.State loss old new
BesideInterface (ie.Bind i line stream loss) old new =
    BesideBinding i line stream (op.Bind (managed_peer_stream old.keeper line stream)) loss old new
BesideInterface (ie.Unbind i line stream loss) old new =
    BesideBinding i line stream (op.Unbind (managed_peer_stream old.keeper line stream)) loss old new
BesideInterface (ie.View i) old new = BesideStays old new
BesideInterface (ie.Write i register value) old new =
    BesideCall i (λ tdi. has_register tdi.plan register) (WriteRegister register value) old new
BesideInterface (ie.Flr i) old new = BesideCall i (λ tdi. true) LevelReset old new
BesideInterface (ie.Firmware i) old new = BesideCall i (λ tdi. true) FirmwareUpdate old new
BesideInterface (ie.Memory at len) old new = BesideStays old new

-- ---- all events

abbrev pub arrival_in_state : Plan → Event → LinkState → Option ArrivedBytes
arrival_in_state plan e st = arrival_of plan st e

abbrev pub BesideBytes : Plan → Event → Verdict → Links → Links → Type 0
BesideBytes plan e verdict old new = BesideArrival plan (arrival_in_state plan e) verdict old new

abbrev pub BesideAfter : Plan → Event → Verdict → Links → Links → Type 0
BesideAfter plan (event.Send port bytes more trusted) verdict old new = BesideStays old new
BesideAfter plan (event.Pass n) verdict old new = BesideBytes plan (event.Pass n) verdict old new
BesideAfter plan (event.Alter n at mask) verdict old new = BesideBytes plan (event.Alter n at mask) verdict old new
BesideAfter plan (event.Cut n len) verdict old new = BesideBytes plan (event.Cut n len) verdict old new
BesideAfter plan (event.Arrive port bytes) verdict old new = BesideBytes plan (event.Arrive port bytes) verdict old new
BesideAfter plan (event.Dump n) verdict old new = BesideStays old new
BesideAfter plan (event.Establish line stream loss) verdict old new =
    BesideOperation operation.Establish line stream verdict old new
BesideAfter plan (event.Refresh line stream loss) verdict old new = BesideOperation operation.Refresh line stream
    verdict old new
BesideAfter plan (event.Stop line stream loss) verdict old new = BesideOperation operation.Stop line stream verdict old
    new
BesideAfter plan (event.Reset link ends) verdict old new = BesideReset link old new
BesideAfter plan (event.Status line stream) verdict old new = BesideStays old new
BesideAfter plan (event.Interface e) verdict old new = BesideInterface e old new
BesideAfter plan (event.Access e) verdict old new = BesideStays old new
BesideAfter plan (event.Forward link d) verdict old new = BesideStays old new
BesideAfter plan event.Absent verdict old new = BesideStays old new
