-- What the host's manager of interfaces is told of streams, and its operations at the two ends of a link.
use Rattle.std.specs.Prelude.{ℕ, ◌&&◌, nat_le, Bool, if◌then◌else◌, List, slice_set, Option, None}
use Rattle.ide_types.specs.declared.status.StreamStatus.{StreamStatus}
use Rattle.interface_host.specs.declared.operation.InterfaceOperation.TheVariants.{Bind, Unbind}
use Rattle.key_host.specs.Managers.{ManagerView, named_stream, status_named}
use Rattle.link_ends.specs.Keepers.{KeeperView}
use Rattle.script_events.specs.declared.event.Loss.{Loss}
use Rattle.key_host.specs.declared.operation.NamedOperation.{NamedOperation}
use Rattle.key_host.specs.declared.operation.NamedOperation.TheVariants.{Establish, Refresh, Stop}
use Rattle.key_host.specs.declared.operation.StreamOutcome.{StreamOutcome}
use Rattle.key_host.specs.declared.operation.StreamOutcome.TheVariants.{Done}
use Rattle.key_host.specs.declared.operation.StreamResult.TheVariants.{Draw}
use Rattle.key_host.specs.Streams.{status_or_idle}
use Rattle.interface_host.specs.declared.operation.InterfaceOperation.{InterfaceOperation}
use Rattle.interface_host.specs.Views.{HostTdi, peer_number}
use Rattle.interface_host.specs.Managers.{InterfaceManagerView, stop_begun, peer_stop, stream_keyed}
use Rattle.interface_ends.specs.Keepers.{Ended, interface_operated}
use Rattle.ide_port.specs.{port_stream_status}
use Rattle.link_ends.specs.DeviceEnds.{secure_at}
use Rattle.link_ends.specs.declared.ends.LinkEnds.{LinkEnds}

-- the manager of interfaces, as it is seen
abbrev pub InterfacesView : Type 0
InterfacesView = InterfaceManagerView

-- ---- what an operation on a stream tells

abbrev pub keyed_if : Bool → ℕ → ℕ → ℕ → InterfaceManagerView → InterfaceManagerView
keyed_if drew line stream draw m = if drew then stream_keyed line stream draw m else m

abbrev pub keyed_at_end : StreamOutcome → ℕ → ℕ → InterfaceManagerView → InterfaceManagerView
keyed_at_end (Done (Draw draw)) line stream m = stream_keyed line stream draw m
keyed_at_end outcome line stream m = m

abbrev pub stopped_if : Bool → ℕ → ℕ → InterfaceManagerView → InterfaceManagerView
stopped_if begins line stream m = if begins then stop_begun line stream m else m

-- an establish that drew gave the stream its draw, and so does a refresh at its end; a stop breaks views if it begins
abbrev pub manager_told : NamedOperation → Bool → Bool → ℕ → StreamOutcome → InterfaceManagerView → InterfaceManagerView
manager_told (Establish line stream) begins drew draw outcome m = keyed_if drew line stream draw m
manager_told (Refresh line stream) begins drew draw outcome m = keyed_at_end outcome line stream m
manager_told (Stop line stream) begins drew draw outcome m = stopped_if begins line stream m

-- ---- what an operation on a line that is keyed by messages at both ends tells

-- each event of a stop of a stream between devices breaks views
abbrev pub pair_told : NamedOperation → InterfaceManagerView → InterfaceManagerView
pair_told (Establish line stream) m = m
pair_told (Refresh line stream) m = m
pair_told (Stop line stream) m = if nat_le 24 line then peer_stop (peer_number line) m else m

-- the draws of the establishes of streams between devices that drew last, by the streams' numbers
abbrev pub peer_drawn : NamedOperation → Bool → ℕ → List ℕ → List ℕ
peer_drawn (Establish line stream) drew draw draws =
    if nat_le 24 line && drew then slice_set draws (peer_number line) draw else draws
peer_drawn (Refresh line stream) drew draw draws = draws
peer_drawn (Stop line stream) drew draw draws = draws

-- ---- an operation on an interface

-- the status of the stream that it asks for: of the interface's own at the host's port, of one between devices by the
-- operations of the manager of keys
abbrev pub status_for_operation : ManagerView → Option StreamStatus → InterfaceOperation → StreamStatus
status_for_operation m host (Bind peer) = status_named (named_stream m peer.line peer.id)
status_for_operation m host (Unbind peer) = status_named (named_stream m peer.line peer.id)
status_for_operation m host op = status_or_idle host

-- what is Live at the device's end of the stream between devices that it names
abbrev pub live_for_operation : (ℕ → Option ℕ) → InterfaceOperation → Option ℕ
live_for_operation live (Bind peer) = live peer.id
live_for_operation live op = None

abbrev pub operated_on : ℕ → InterfaceOperation → Option Loss → KeeperView → (ℕ → Option ℕ) → InterfaceManagerView
    → LinkEnds → HostTdi → Ended
operated_on interface op loss k live m l i =
    interface_operated interface op (status_for_operation k.manager (port_stream_status l.host i.stream) op)
    k.pool.draws
    (record { secure = secure_at l.device.port i.stream; live = live_for_operation live op }) loss m l.device.interfaces
    i
