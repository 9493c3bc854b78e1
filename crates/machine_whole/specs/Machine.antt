-- All that is kept of ports and interfaces, and one step of it.
use Rattle.std.specs.Prelude.{ℕ, ◌==◌, ◌&&◌, Bool, if◌then◌else◌, Option, Some, None, Result, Ok, [], List, length}
use Rattle.std.specs.Option.{option_and_then}
use Rattle.ide_types.specs.declared.port.PortName.{PortName}
use Rattle.ide_types.specs.declared.port.Side.{Side}
use Rattle.ide_types.specs.declared.port.Side.TheVariants.{Host, Device}
use Rattle.ide_types.specs.declared.plan.Plan.{Plan}
use Rattle.tlp_layout.specs.declared.head.HeadView.{HeadView}
use Rattle.ide_prefix.specs.Packet.{Packet}
use Rattle.script_events.specs.declared.event.Event.{Event}
use Rattle.script_events.specs.declared.event.InterfaceEvent.{InterfaceEvent}
use Rattle.script_events.specs.declared.event.Event.TheVariants as event
use Rattle.event_verdicts.specs.declared.verdict.Verdict.{Verdict}
use Rattle.event_verdicts.specs.declared.verdict.Verdict.TheVariants as v
use Rattle.spec_keys.specs.Operations.{StreamStage, Idle}
use Rattle.spec_keys.specs.History.{begins_keyed}
use Rattle.spec_interfaces.specs.Devices.{is_secure}
use Rattle.spec_interfaces.specs.Cause.{is_peer, owner_id, owners_link}
use Rattle.machine_whole.specs.Interfaces.{Faces, new_faces, Streams, EndsRead, faces_after, interface_answer, t_of}
use Rattle.machine_whole.specs.Interfaces.{peer_t_of, grant_of}
use Rattle.machine_operations.specs.{forward_of, StreamState, PacketOutcome, Accepted, stream_outcome, BesidePorts}
use Rattle.machine_operations.specs.{LinkState, find, find_op, machine_status, step_of, first_state, whole_arrival}
use Rattle.machine_operations.specs.{altered_to, cut_short, packet_numbered, ReadCompletion, port_completion}
use Rattle.spec_links.specs.Memory.{Policy, effects_under_policy, admitted_writes, shown_if}
use Rattle.spec_links.specs.Guarded.{mmio_by_happenings}
use Rattle.spec_links.specs.History.{ArrivedBytes}
use Rattle.spec_links.specs.Plan.{has_port, aggregation_of, is_closed}
use Rattle.spec_links.specs.Ports.{port_of, at_switch}
use Rattle.spec_links.specs.Packets.{arrival_at}
use Rattle.trusted_memory.specs.Writes.{Write, newest_first}
unfoldable use Rattle.trusted_memory.specs.Writes.{byte_last_written}
use Rattle.trusted_memory.specs.Regions.{in_one_region}
use Rattle.trusted_memory.specs.Memory.{bytes_from}
use Rattle.ide_prefix.specs.declared.fault.PacketFault.{PacketFault}
use Rattle.ide_prefix.specs.Reading.{CutValue, IdePacket, cut_of}
use Rattle.script_events.specs.declared.event.InterfaceEvent.TheVariants as ie
use Rattle.spec_interfaces.specs.Sites.{sites}
use Rattle.spec_links.specs.Sent.{claim_completion}
use Rattle.spec_links.specs.Terms.{InterfaceStatus, MemReadView, claim_of, host_completer}
unfoldable use Rattle.spec_links.specs.{completion_bytes}
use Rattle.machine_whole.specs.Accesses.{AccessState, first_accesses, face_statuses, posted_draw_at, accesses_after}

-- ---- what is kept

-- the ports with the manager's streams, the interfaces, the draw of each stream, the writes that were admitted, the
-- newest first, and what stands at each link for reads and for the memory of interfaces
pub record Whole : Type 0 where
  pub links : LinkState
  pub faces : Faces
  pub draw : ℕ → ℕ → ℕ
  pub written : List Write
  pub accesses : AccessState

abbrev pub new_whole : Plan → Whole
new_whole plan = record {
  links = first_state plan;
  faces = new_faces plan;
  draw = λ line stream. 0;
  written = [];
  accesses = first_accesses plan;
}

-- ---- what each part reads of the other

abbrev pub op_or_idle : Option StreamStage → StreamStage
op_or_idle None = Idle
op_or_idle (Some q) = q

abbrev pub machine_secure : Plan → LinkState → ℕ → ℕ → Bool
machine_secure plan st link stream = is_secure (machine_status plan st Device link stream)

-- the draw that is Live where an end receives posted requests, if the stream is Secure there
abbrev pub live_if : Bool → ℕ → Option ℕ
live_if secure draw = if secure then Some draw else None

abbrev pub live_draw_at_end : Plan → LinkState → PortName → ℕ → Option ℕ
live_draw_at_end plan st end stream =
    live_if (is_secure (machine_status plan st end.side end.line stream)) (posted_draw_at plan st end stream)

abbrev pub ends_in : Plan → LinkState → EndsRead
ends_in plan st = record { secure = machine_secure plan st; live = live_draw_at_end plan st }

abbrev pub whole_streams : Plan → Whole → Streams
whole_streams plan w = record {
  secure = machine_secure plan w.links;
  live = live_draw_at_end plan w.links;
  host = λ line stream. machine_status plan w.links Host line stream;
  draw = w.draw;
  op = λ line stream. op_or_idle (find_op plan w.links line stream);
  drawn = w.links.draws;
}

abbrev pub t_at_side : Plan → Faces → PortName → Side → HeadView → ℕ → Bool → Bool
t_at_side plan fs port Host head stream trusted = trusted
t_at_side plan fs port Device head stream trusted = t_of plan fs port.line stream (owner_id head)

-- T of a TLP that an end seals on a stream
abbrev pub t_kept : Plan → Faces → PortName → HeadView → ℕ → Bool → Bool
t_kept plan fs end head stream trusted =
    if at_switch plan end then trusted
    else if is_peer plan end then peer_t_of plan fs (owners_link plan end) stream (owner_id head)
    else t_at_side plan fs end end.side head stream trusted

-- ---- memory

-- what is shown of memory
abbrev pub memory_shown : Plan → List Write → InterfaceEvent → Verdict
memory_shown plan written (ie.Memory at len) =
    shown_if (in_one_region plan.memory at len) (bytes_from (byte_last_written written) at len)
memory_shown plan written e = v.Nothing

-- what an event brings
abbrev pub arrival_of : Plan → LinkState → Event → Option ArrivedBytes
arrival_of plan st (event.Pass n) = option_and_then (whole_arrival plan) (packet_numbered st.packets n)
arrival_of plan st (event.Alter n at mask) = option_and_then (altered_to plan at mask) (packet_numbered st.packets n)
arrival_of plan st (event.Cut n len) = option_and_then (cut_short plan len) (packet_numbered st.packets n)
arrival_of plan st (event.Arrive port bytes) = if has_port plan port then Some (arrival_at plan port bytes) else None
arrival_of plan st e = None

abbrev pub unit_taken : PacketOutcome → List Packet
unit_taken (Accepted j n unit) = unit
unit_taken _ = []

abbrev pub unit_found : Plan → PortName → Packet → Option StreamState → List Packet
unit_found plan port p None = []
unit_found plan port p (Some x) =
    unit_taken (stream_outcome (aggregation_of plan port.line p.prefix.stream)
    (is_closed plan port.line p.prefix.stream) x p)

abbrev pub unit_cut : Plan → LinkState → PortName → Result CutValue PacketFault → List Packet
unit_cut plan st port (Ok (IdePacket p)) = unit_found plan port p (find plan st port p.prefix.stream)
unit_cut plan st port _ = []

-- the unit that it ends
abbrev pub unit_in : Plan → LinkState → Option ArrivedBytes → List Packet
unit_in plan st None = []
unit_in plan st (Some a) = unit_cut plan st a.port (cut_of a.bytes)

-- ---- beside the ports

-- how the interfaces of a link's device stand
abbrev pub statuses_of : Plan → Whole → ℕ → List InterfaceStatus
statuses_of plan w link = face_statuses link (sites plan) w.faces.list w.accesses.floors

-- what the effects of packets and the answers to reads depend on
abbrev pub policy_of : Plan → Whole → Policy
policy_of plan w = record {
  grants = grant_of plan w.faces;
  waiting = λ port. length (w.accesses.waiting port);
  statuses = statuses_of plan w;
}

-- the completion of a read that waits at a port: from trusted memory, or from that of the interface that claims it now
abbrev pub completion_from_memory : Plan → Whole → PortName → MemReadView → List ℕ
completion_from_memory plan w port read = by port.side
  where
    by : Side → List ℕ
    by Host = completion_bytes host_completer (byte_last_written w.written) read
    by Device = claim_completion plan port.line (w.accesses.happened port.line) read
        (claim_of (statuses_of plan w port.line) read.span)

abbrev pub machine_completion : Plan → Whole → PortName → Result ReadCompletion Verdict
machine_completion plan w port =
    port_completion plan (policy_of plan w) (completion_from_memory plan w port) port (w.accesses.waiting port)

abbrev pub beside_of : Plan → Whole → BesidePorts
beside_of plan w = record {
  t = t_kept plan w.faces;
  effects = λ port. effects_under_policy plan (policy_of plan w) (port_of plan port);
  answer = λ e. interface_answer plan (whole_streams plan w) w.faces e (memory_shown plan w.written e);
  reply = machine_completion plan w;
  shows = mmio_by_happenings plan w.accesses.happened;
  forward = λ link d. forward_of plan link (w.accesses.carried link d);
}

-- ---- one step

abbrev pub draw_after : (ℕ → ℕ → StreamStage) → ℕ → Event → Verdict → (ℕ → ℕ → ℕ) → ℕ → ℕ → ℕ
draw_after ops drawn (event.Establish l s loss) w draw =
    λ line stream. if (l == line) && (s == stream) && begins_keyed (ops l s) drawn w then drawn else draw line stream
draw_after ops drawn (event.Refresh l s loss) (v.Refreshed a b j) draw =
    λ line stream. if (l == line) && (s == stream) then j else draw line stream
draw_after ops drawn e w draw = draw

-- the packets of the unit that an event ends
abbrev pub ended_unit : Plan → Whole → Event → List Packet
ended_unit plan w e = unit_in plan w.links (arrival_of plan w.links e)

abbrev pub written_after : Plan → Whole → Event → Verdict → List Write
written_after plan w e (v.Accepted port unit effects) =
    newest_first (admitted_writes plan (grant_of plan w.faces) port unit (ended_unit plan w e)) w.written
written_after plan w e verdict = w.written

abbrev pub whole_faces_after : Plan → Whole → Event → Verdict → LinkState → Faces
whole_faces_after plan w e verdict links =
    faces_after plan (whole_streams plan w) (ends_in plan links) e verdict w.faces

abbrev pub whole_after : Plan → Whole → Event → Verdict → LinkState → Whole
whole_after plan w e verdict links =
    let faces = whole_faces_after plan w e verdict links in
    record {
      links = links;
      faces = faces;
      draw = draw_after (whole_streams plan w).op w.links.draws e verdict w.draw;
      written = written_after plan w e verdict;
      accesses = accesses_after plan w.links w.faces faces (ended_unit plan w e) e verdict w.accesses;
    }

-- the verdict of an event, and the state after it
abbrev pub whole_step : Plan → Whole → Event → Verdict × Whole
whole_step plan w e = let r = step_of plan (beside_of plan w) w.links e in (r.0, whole_after plan w e r.0 r.1)
