-- What a verdict came from, by the state of the whole machine.
use Rattle.std.specs.Prelude.{ℕ, ◌==◌, Bool, if◌then◌else◌}
use Rattle.std.specs.Prelude.{List, [], ◌∷◌, ◌++◌, length, Option, Some, None, Result, Ok, Err}
use Rattle.std.specs.Option.{option_and_then, option_map}
use Rattle.ide_types.specs.{is_link_line}
use Rattle.ide_types.specs.declared.port.PortName.{PortName}
use Rattle.ide_types.specs.declared.port.Side.{Side}
use Rattle.ide_types.specs.declared.port.Side.TheVariants.{Host, Device}
use Rattle.ide_types.specs.declared.sub.SubKind.{SubKind}
use Rattle.ide_types.specs.declared.sub.SubKind.TheVariants.{Cpl}
use Rattle.ide_types.specs.Ports.{host_port}
use Rattle.ide_types.specs.declared.direction.Direction.{Direction}
use Rattle.ide_types.specs.declared.plan.Plan.{Plan}
use Rattle.ide_types.specs.declared.stream.StreamPlan.{StreamPlan}
use Rattle.tlp_layout.specs.declared.head.HeadView.{HeadView}
use Rattle.tlp_layout.specs.Class.{class_of}
use Rattle.tlp_layout.specs.Tlp.{header}
use Rattle.tlp_layout.specs.Outgoing.{Outgoing, NoTlp, OnNone, OnStream}
use Rattle.ide_prefix.specs.Packet.{Packet}
use Rattle.ide_prefix.specs.Reading.{CutValue, PlainTlp, IdePacket, cut_of}
use Rattle.ide_prefix.specs.declared.fault.PacketFault.{PacketFault}
use Rattle.script_events.specs.declared.event.Event.{Event}
use Rattle.script_events.specs.declared.event.Event.TheVariants as event
use Rattle.script_events.specs.declared.event.InterfaceEvent.{InterfaceEvent}
use Rattle.script_events.specs.declared.event.AccessEvent.TheVariants as ae
use Rattle.spec_keys.specs.Operations.{StreamStage}
use Rattle.spec_stream.specs.Stream.{LaneSlot, Empty, Programmed, Armed, Live, LiveKey, StreamState}
use Rattle.spec_stream.specs.Stream.{at_sub, live_in, slot_in_set}
use Rattle.spec_stream.specs.Slots.{stream_status}
use Rattle.spec_interfaces.specs.Sites.{Site, sites}
use Rattle.spec_interfaces.specs.Views.{number_in}
use Rattle.spec_interfaces.specs.Cause.{owner_id, owners_link}
use Rattle.machine_whole.specs.Interfaces.{Face, Faces, asked_state_of_face, find_face, with_requester}
use Rattle.spec_links.specs.{WaitingRead, has_hop, leaving_end}
use Rattle.spec_links.specs.Hops.{HopTlp}
use Rattle.spec_links.specs.Plan.{has_link, is_closed, streams_of}
use Rattle.spec_links.specs.Ports.{goes_through, may_send, outgoing_at, port_of, sealing_end}
use Rattle.spec_links.specs.History.{ArrivedBytes}
use Rattle.machine_operations.specs.{find, find_op, ports_of, machine_status}
use Rattle.machine_whole.specs.Accesses.{face_statuses}
use Rattle.machine_whole.specs.Machine.{Whole, arrival_of, whole_streams}
use Rattle.told_facts.specs.declared.fact.Fact.{Fact}
use Rattle.told_facts.specs.declared.fact.SetState.{SetState}
use Rattle.told_facts.specs.declared.fact.SetState.TheVariants as set
use Rattle.why_facts.specs.Forms.{Readings, arrives_fact, asked_facts, at_port, counts_facts, each_looked_at}
use Rattle.why_facts.specs.Forms.{clears_fact, establish_facts, face_facts, manager_fact, memory_facts, packets_fact}
use Rattle.why_facts.specs.Forms.{posted_fact, queue_facts, read_fact, refresh_facts, response_facts, sends_fact}
use Rattle.why_facts.specs.Forms.{facts_of_sets, shown_facts}
use Rattle.why_facts.specs.Forms.{state_fact, stop_facts, total_facts, unit_facts, waiting_fact}
use Rattle.why_facts.specs.Due.{sets_own_t}

-- ---- what is known of interfaces

abbrev pub known_facts : Option (Site × Face) → List Fact
known_facts None = []
known_facts (Some y) = face_facts y.0 y.1.tdi y.1.managed

abbrev pub owner_found : Plan → Faces → ℕ → HeadView → Option (Site × Face)
owner_found plan fs link head = option_and_then (with_requester plan fs link) (owner_id head)

abbrev pub readings_of_whole : Plan → Whole → Readings
readings_of_whole plan w = record {
  known = λ link requester. known_facts (with_requester plan w.faces link requester);
  numbered = λ link requester.
      option_map (λ (y : Site × Face). y.0.number) (with_requester plan w.faces link requester);
  waiting = λ port. length (w.accesses.waiting port);
  statuses = λ link. face_statuses link (sites plan) w.faces.list w.accesses.floors;
}

-- ---- a stream at a port

-- what a slot holds
abbrev pub set_state_of_slot : LaneSlot → SetState
set_state_of_slot Empty = set.Empty
set_state_of_slot (Programmed j key) = set.Kept j
set_state_of_slot (Armed j key) = set.Waits j
set_state_of_slot (Live x) = set.On x.draw x.units (length x.packets)

abbrev pub receiver_fact_list : Bool → StreamState → SubKind → List Fact
receiver_fact_list closed x u =
    let rx = at_sub x.rx u in
    facts_of_sets (set_state_of_slot rx.slots.first) (set_state_of_slot rx.slots.second)
    ++ counts_facts u rx.sum x.rx.pr.got
    ++ total_facts closed rx.total

abbrev pub sender_facts_of : Bool → StreamState → SubKind → List Fact
sender_facts_of closed x u =
    let tx = at_sub x.tx u in
    posted_fact u tx.posted
    ∷ (facts_of_sets (set_state_of_slot tx.slots.first) (set_state_of_slot tx.slots.second)
    ++ total_facts closed tx.total)

-- ---- arrivals

-- of a packet under the Live key of its set
abbrev pub asks_live : Plan → Whole → PortName → Packet → Option LiveKey → List Fact
asks_live plan w port p None = []
asks_live plan w port p (Some x) =
    unit_facts plan (readings_of_whole plan w) (port_of plan port) p.prefix.sub x.packets p

abbrev pub asks_by_state : Plan → Whole → PortName → StreamState → Packet → List Fact
asks_by_state plan w port x p =
    if x.failed then []
    else asks_live plan w port p (live_in (slot_in_set (at_sub x.rx p.prefix.sub).slots p.prefix.k))

abbrev pub received_by : Plan → Whole → PortName → Packet → Option StreamState → List Fact
received_by plan w port p None = []
received_by plan w port p (Some x) =
    state_fact (stream_status x)
    ∷ (receiver_fact_list (is_closed plan port.line p.prefix.stream) x p.prefix.sub ++ asks_by_state plan w port x p)

abbrev pub packet_facts : Plan → Whole → PortName → Result CutValue PacketFault → List Fact
packet_facts plan w port (Err f) = at_port plan port ∷ []
packet_facts plan w port (Ok PlainTlp) = at_port plan port ∷ []
packet_facts plan w port (Ok (IdePacket p)) =
    arrives_fact plan port p ∷ received_by plan w port p (find plan w.links port p.prefix.stream)

abbrev pub arrival_facts_in : Plan → Whole → List Fact → Option ArrivedBytes → List Fact
arrival_facts_in plan w unnamed None = unnamed
arrival_facts_in plan w unnamed (Some a) =
    if goes_through plan a.port a.bytes then at_port plan a.port ∷ [] else packet_facts plan w a.port (cut_of a.bytes)

abbrev pub packet_count_facts : Whole → List Fact
packet_count_facts w = packets_fact (length w.links.packets)

-- ---- sends

abbrev pub owner_in : Plan → Whole → PortName → HeadView → List Fact
owner_in plan w end head =
    if sets_own_t plan end then known_facts (owner_found plan w.faces (owners_link plan end) head) else []

abbrev pub senders_in : Plan → PortName → ℕ → SubKind → StreamState → List Fact
senders_in plan port stream class x =
    state_fact (stream_status x) ∷ each_looked_at (sender_facts_of (is_closed plan port.line stream) x) class

abbrev pub sent_stream_facts : Plan → Whole → PortName → ℕ → HeadView → Option StreamState → List Fact
sent_stream_facts plan w end stream head None = []
sent_stream_facts plan w end stream head (Some x) =
    sends_fact plan end stream (class_of head)
    ∷ (senders_in plan end stream (class_of head) x ++ owner_in plan w end head)

abbrev pub send_facts_in : Plan → Whole → PortName → Outgoing → List Fact
send_facts_in plan w end (NoTlp f) = at_port plan end ∷ []
send_facts_in plan w end OnNone = at_port plan end ∷ []
send_facts_in plan w end (OnStream t stream) =
    sent_stream_facts plan w end stream (header t) (find plan w.links end stream)

-- ---- answers to reads, and forwards

abbrev pub completion_facts : Plan → PortName → ℕ → Option StreamState → List Fact
completion_facts plan port stream None = []
completion_facts plan port stream (Some x) =
    state_fact (stream_status x) ∷ sender_facts_of (is_closed plan port.line stream) x Cpl

abbrev pub reader_in : Plan → Whole → Option (Site × Face) → List Fact
reader_in plan w None = []
reader_in plan w (Some y) =
    face_facts y.0 y.1.tdi y.1.managed
    ++ completion_facts plan (host_port y.0.link) y.0.plan.stream
    (find plan w.links (host_port y.0.link) y.0.plan.stream)

abbrev pub waiting_in : Plan → Whole → Side → ℕ → WaitingRead → List Fact
waiting_in plan w Host link r =
    read_fact r.came.draw ∷ reader_in plan w (with_requester plan w.faces link r.read.requester)
waiting_in plan w Device link r =
    response_facts plan (readings_of_whole plan w) link r
    (completion_facts plan r.came.end r.came.stream (find plan w.links r.came.end r.came.stream))

abbrev pub queue_in : Plan → Whole → Side → ℕ → List Fact
queue_in plan w side link =
    queue_facts (has_link plan link) (waiting_in plan w side link)
    (w.accesses.waiting (record { side = side; line = link }))

abbrev pub first_tlp_facts : Plan → Whole → PortName → List HopTlp → List Fact
first_tlp_facts plan w end [] = []
first_tlp_facts plan w end (x ∷ xs) = send_facts_in plan w end (outgoing_at plan end x.bytes)

abbrev pub forward_facts_in : Plan → Whole → ℕ → Direction → List Fact
forward_facts_in plan w link d =
    if has_hop plan link
    then waiting_fact (length (w.accesses.carried link d))
    ∷ first_tlp_facts plan w (leaving_end link d) (w.accesses.carried link d) else []

-- ---- operations on streams

-- of a stream of which the manager has this, if it has it
abbrev pub if_found : Option StreamStage → (StreamStage → List Fact) → List Fact
if_found None facts = []
if_found (Some q) facts = facts q

-- ---- resets

abbrev pub cleared_in : Plan → Whole → PortName → List StreamPlan → List Fact
cleared_in plan w end [] = []
cleared_in plan w end (s ∷ ss) =
    clears_fact plan end s.id (machine_status plan w.links end.side end.line s.id)
    ∷ (if_found (find_op plan w.links end.line s.id) (λ q. manager_fact q ∷ []) ++ cleared_in plan w end ss)

abbrev pub reset_facts_in : Plan → Whole → List PortName → List Fact
reset_facts_in plan w [] = []
reset_facts_in plan w (e ∷ es) = cleared_in plan w e (streams_of plan e.line) ++ reset_facts_in plan w es

-- ---- events on interfaces

abbrev pub asked_face : Plan → Whole → InterfaceEvent → Option (Site × Face) → List Fact
asked_face plan w e None = []
asked_face plan w e (Some y) =
    asked_facts plan y.0 (asked_state_of_face plan (whole_streams plan w) w.faces.used y.0 y.1) e

abbrev pub asked_facts_in_state : Plan → Whole → InterfaceEvent → Option ℕ → List Fact
asked_facts_in_state plan w e None = memory_facts plan e
asked_facts_in_state plan w e (Some i) = asked_face plan w e (find_face (λ x. x.number == i) (sites plan) w.faces.list)

-- ---- the memory of interfaces

abbrev pub shown_in : ℕ → Option (Site × Face) → List Fact
shown_in bar None = []
shown_in bar (Some y) = shown_facts y.0.number y.1.tdi bar

-- ---- all events

unfoldable pub facts_in : Plan → Whole → Event → List Fact
facts_in plan w (event.Send port bytes more trusted) =
    if may_send plan port
    then send_facts_in plan w (sealing_end plan port bytes) (outgoing_at plan (sealing_end plan port bytes) bytes)
    else []
facts_in plan w (event.Pass n) = arrival_facts_in plan w (packet_count_facts w) (arrival_of plan w.links (event.Pass n))
facts_in plan w (event.Alter n at mask) =
    arrival_facts_in plan w (packet_count_facts w) (arrival_of plan w.links (event.Alter n at mask))
facts_in plan w (event.Cut n len) =
    arrival_facts_in plan w (packet_count_facts w) (arrival_of plan w.links (event.Cut n len))
facts_in plan w (event.Arrive port bytes) =
    arrival_facts_in plan w [] (arrival_of plan w.links (event.Arrive port bytes))
facts_in plan w (event.Dump n) = packet_count_facts w
facts_in plan w (event.Establish line stream loss) =
    if_found (find_op plan w.links line stream)
    (λ q. establish_facts plan (ports_of plan w.links) line stream q w.links.draws)
facts_in plan w (event.Refresh line stream loss) =
    if is_link_line line
    then if_found (find_op plan w.links line stream)
    (λ q. refresh_facts plan (ports_of plan w.links) line stream q w.links.draws
    (machine_status plan w.links Host line stream))
    else []
facts_in plan w (event.Stop line stream loss) =
    if_found (find_op plan w.links line stream)
    (λ q. stop_facts plan (ports_of plan w.links) line stream q w.links.draws)
facts_in plan w (event.Status line stream) = if_found (find_op plan w.links line stream) (λ q. manager_fact q ∷ [])
facts_in plan w (event.Interface e) = asked_facts_in_state plan w e (number_in e)
facts_in plan w (event.Access (ae.Answer link)) = queue_in plan w Host link
facts_in plan w (event.Access (ae.Respond link)) = queue_in plan w Device link
facts_in plan w (event.Access (ae.Mmio interface bar offset len)) =
    shown_in bar (find_face (λ x. x.number == interface) (sites plan) w.faces.list)
facts_in plan w (event.Forward link d) = forward_facts_in plan w link d
facts_in plan w (event.Reset link ends) = if has_link plan link then reset_facts_in plan w ends else []
facts_in plan w event.Absent = []
