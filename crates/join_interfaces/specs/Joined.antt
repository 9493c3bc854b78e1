-- An operation on an interface, carried exchange by exchange, is a step of the machine of interfaces.
use Rattle.std.specs.Prelude.{ℕ, ◌≡◌, ◌+◌, ◌<◌, ◌≤◌, Bool, true, List, slice_get, slice_set, Option, Some, All}
use Rattle.ide_types.specs.declared.plan.Plan.{Plan}
use Rattle.ide_types.specs.Fits.{IsKey, FitsStream, FitsInterface}
use Rattle.ide_types.specs.declared.stream.StreamPlan.{StreamPlan}
use Rattle.script_events.specs.declared.event.Loss.{Loss}
use Rattle.script_events.specs.declared.event.Event.TheVariants as event
use Rattle.event_verdicts.specs.declared.verdict.Verdict.{Verdict}
use Rattle.spec_interfaces.specs.Sites.{Site, nonce_behind}
use Rattle.spec_interfaces.specs.Devices.{accepts_lock, one_if}
use Rattle.spec_interfaces.specs.Due.{asked_due, op_status}
use Rattle.spec_interfaces.specs.Peers.{has_peer, live_by_id}
use Rattle.spec_interfaces.specs.Terms.{StreamStage}
use Rattle.ide_types.specs.declared.status.StreamStatus.{StreamStatus}
use Rattle.machine_whole.specs.Interfaces.{Face, Streams, ends_of_streams, around_of, asked_state_of_face, next_face}
use Rattle.interface_state.specs.Machine.{DeviceTdi}
use Rattle.interface_host.specs.declared.operation.InterfaceOperation.{InterfaceOperation}
use Rattle.interface_host.specs.declared.operation.InterfaceOperation.TheVariants as op
use Rattle.interface_host.specs.Views.{HostTdi}
use Rattle.interface_host.specs.Managers.{InterfaceManagerView}
use Rattle.interface_ends.specs.declared.said.StreamSaid.{StreamSaid}
use Rattle.interface_ends.specs.Replies.{DeviceTdis, named_interface, next_nonce}
use Rattle.interface_ends.specs.Keepers.{Ended, interface_operated}
use Rattle.join_interfaces.specs.Verdicts.{ended_verdict, op_event}
use Rattle.join_interfaces.specs.Faces.{IsFace}

-- An interface at the manager and at its device: it is at this place of each, its plan is within its bounds, and the
-- device gives the topology's nonces in their order.
pub record IsAt (plan : Plan) (s : Streams) (used : ℕ → ℕ) (x : Site) (f : Face) (number place : ℕ)
    (m : InterfaceManagerView)
    (d : DeviceTdis) (i : HostTdi) (tdi : DeviceTdi) : Type 0 where
  pub streams : List StreamPlan
  pub each_stream : All FitsStream streams
  pub fits : FitsInterface streams x.plan
  pub portion_least : 16 ≤ plan.portion
  pub portion_most : plan.portion ≤ 65535
  pub portion_is : m.portion ≡ plan.portion
  pub number_is : x.number ≡ number
  pub at_manager : slice_get m.interfaces number ≡ Some i
  pub at_device : named_interface d i.requester ≡ Some (record { place = place; tdi = tdi })
  pub each_nonce : All IsKey d.nonces
  pub next_is : next_nonce d ≡ nonce_behind plan x.link (used x.link)
  pub face : IsFace (s.draw x.link x.plan.stream) x i tdi f

-- It ended with the machine's verdict. The manager has another interface at its place, the device another at its, and
-- they keep what the machine keeps after the event; a lock that was accepted took a nonce.
pub record IsInterfaceJoined (plan : Plan) (s : Streams) (used : ℕ → ℕ) (x : Site) (f : Face) (number place : ℕ)
    (o : InterfaceOperation) (loss : Option Loss) (m : InterfaceManagerView) (d : DeviceTdis) (e : Ended) : Type 0 where
  pub verdict : Verdict
  pub verdict_is : verdict ≡ asked_due plan x (asked_state_of_face plan s used x f) (op_event o number loss)
  pub ended_is : ended_verdict number o loss e ≡ Some verdict
  pub interface : HostTdi
  pub tdi : DeviceTdi
  pub manager_is : e.manager.interfaces ≡ slice_set m.interfaces number interface
  pub portion_is : e.manager.portion ≡ m.portion
  pub device_is : e.device ≡ record {
    interfaces = slice_set d.interfaces place tdi;
    nonces = d.nonces;
    used = d.used + one_if
        (accepts_lock (around_of plan s used x f) x (event.Interface (op_event o number loss)) verdict f.tdi);
  }
  pub face : IsFace (s.draw x.link x.plan.stream) x interface tdi
      (next_face plan s (ends_of_streams s) used (event.Interface (op_event o number loss)) verdict x f)

-- of a stream between devices that an operation names: the device has it; its ID, its draw as the manager of keys has
-- it, and what the device says of it
abbrev pub FitsNamedPeer : (has : ℕ → ℕ → Bool) → (draws : ℕ → ℕ → ℕ) → (by_id : ℕ → Option ℕ) → Option ℕ
    → InterfaceOperation → Type 0
FitsNamedPeer has draws by_id live (op.Bind peer) =
    (has peer.line peer.id ≡ true) × (peer.id < 256)
    × (peer.draw ≡ draws peer.line peer.id) × (live ≡ by_id peer.id)
FitsNamedPeer has draws by_id live (op.Unbind peer) = (has peer.line peer.id ≡ true) × (peer.id < 256)
FitsNamedPeer has draws by_id live o = Unit {0}

-- the status of the stream that an operation asks for: of its bound one at the host's port; of one between devices as
-- the manager of keys has it
abbrev pub op_host : (ops : ℕ → ℕ → StreamStage) → StreamStatus → InterfaceOperation → StreamStatus
op_host ops host (op.Bind peer) = op_status (ops peer.line peer.id)
op_host ops host (op.Unbind peer) = op_status (ops peer.line peer.id)
op_host ops host o = host

-- what the device says: of the interface's bound stream, and of the one between devices that is named
abbrev pub said_of : Streams → Site → Option ℕ → StreamSaid
said_of s x live = record { secure = s.secure x.link x.plan.stream; live = live }

abbrev pub InterfaceOperationsJoin : Type 0
InterfaceOperationsJoin =
    (plan : Plan) (s : Streams) (used : ℕ → ℕ) (x : Site) (f : Face) (number place : ℕ)
    (o : InterfaceOperation) (loss : Option Loss) (m : InterfaceManagerView) (d : DeviceTdis) (i : HostTdi)
    (tdi : DeviceTdi)
    (live : Option ℕ)
    → IsAt plan s used x f number place m d i tdi
    → FitsNamedPeer (has_peer plan.peers x.link) s.draw (live_by_id s.live plan.peers x.link) live o
    → IsInterfaceJoined plan s used x f number place o loss m d
    (interface_operated number o (op_host s.op (s.host x.link x.plan.stream) o) s.drawn (said_of s x live) loss m d i)
