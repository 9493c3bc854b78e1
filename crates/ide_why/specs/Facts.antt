-- What the verdict of an event comes from, by what is read of a world.
use Rattle.std.specs.Prelude.{ℕ, Bool, not, if◌then◌else◌, List, [], ◌∷◌, ◌++◌, length, Option, Some, None, Result}
use Rattle.std.specs.Prelude.{Ok, Err}
use Rattle.std.specs.List.{slice_index_or}
use Rattle.std.specs.Option.{option_map}
use Rattle.ide_types.specs.{is_hosted, is_link_line}
use Rattle.ide_types.specs.declared.direction.Direction.{Direction}
use Rattle.ide_types.specs.declared.port.PortName.{PortName}
use Rattle.ide_types.specs.declared.port.Side.{Side}
use Rattle.ide_types.specs.declared.port.Side.TheVariants.{Host, Device}
use Rattle.ide_types.specs.Ports.{host_port}
use Rattle.ide_types.specs.declared.plan.Plan.{Plan}
use Rattle.ide_types.specs.declared.interface.InterfacePlan.{InterfacePlan}
use Rattle.ide_types.specs.declared.stream.StreamPlan.{StreamPlan}
use Rattle.tlp_layout.specs.Outgoing.{Outgoing, NoTlp, OnNone, OnStream}
use Rattle.ide_prefix.specs.Packet.{Packet}
use Rattle.ide_prefix.specs.Reading.{CutValue, PlainTlp, IdePacket, cut_of}
use Rattle.ide_prefix.specs.declared.fault.PacketFault.{PacketFault}
use Rattle.tlp_layout.specs.Class.{class_of}
use Rattle.tlp_layout.specs.Tlp.{header}
use Rattle.tlp_layout.specs.declared.head.HeadView.{HeadView}
use Rattle.trusted_memory.specs.declared.queue.WaitingRead.{WaitingRead}
use Rattle.interface_state.specs.{DeviceTdi}
use Rattle.spec_interfaces.specs.Cause.{owners_link}
use Rattle.spec_interfaces.specs.Peers.{has_peer}
use Rattle.spec_interfaces.specs.Views.{number_in, peer_of}
use Rattle.spec_keys.specs.History.{program_exchange}
use Rattle.spec_keys.specs.Operations.{StreamStage, Up, last_exchange_of, work_of}
use Rattle.event_verdicts.specs.declared.verdict.Operation.{Operation}
use Rattle.event_verdicts.specs.declared.verdict.Operation.TheVariants as op
use Rattle.script_events.specs.declared.event.Event.{Event}
use Rattle.script_events.specs.declared.event.Event.TheVariants as event
use Rattle.script_events.specs.declared.event.AccessEvent.TheVariants as ae
use Rattle.script_events.specs.declared.event.InterfaceEvent.{InterfaceEvent}
use Rattle.script_events.specs.declared.event.InterfaceEvent.TheVariants as ie
use Rattle.spec_links.specs.{HopTlp, has_hop, leaving_end}
use Rattle.spec_links.specs.History.{ArrivedBytes}
use Rattle.spec_links.specs.Plan.{has_link, streams_of}
use Rattle.spec_links.specs.Ports.{goes_through, may_send, outgoing_at, port_of, sealing_end}
use Rattle.machine_operations.specs.{LinkState, find_op, machine_status}
use Rattle.sub_stream.specs.declared.facts.StreamFacts.{StreamFacts}
use Rattle.sub_stream.specs.Facts.{lane_seen}
use Rattle.machine_whole.specs.Machine.{arrival_of, op_or_idle}
use Rattle.told_facts.specs.declared.fact.Fact.{Fact}
use Rattle.told_facts.specs.declared.fact.InterfaceFact.TheVariants as face
use Rattle.told_facts.specs.declared.fact.OperationFact.TheVariants as of
use Rattle.told_facts.specs.declared.fact.Fact.TheVariants as fact
use Rattle.why_facts.specs.Due.{sets_own_t}
use Rattle.why_facts.specs.Forms.{Readings, arrives_fact, at_port, clears_fact, draw_fact, draws_fact, manager_fact}
use Rattle.why_facts.specs.Forms.{may_go, memory_facts, packets_fact, peer_facts, pool_of, queue_facts, read_fact}
use Rattle.why_facts.specs.Forms.{refuses_fact, response_facts, sends_fact, shown_facts, state_fact, takes_facts}
use Rattle.why_facts.specs.Forms.{unit_facts, waiting_fact}
use Rattle.why_facts.specs.Kept.{if_found}
use Rattle.told_facts.specs.Exchanges.{interface_exchanges, interface_planned, key_exchanges}
use Rattle.world.specs.{WholeLinks, carried_on_link, links_state, peer_live, reads_at}
use Rattle.why_facts.specs.declared.appends.faces.FaceSeen.{FaceSeen}
use Rattle.why_facts.specs.declared.appends.places.Place.{Place}
use Rattle.why_facts.specs.{completion_seen, face_seen, is_live_seen, key_place, opens_seen, receiver_seen}
use Rattle.why_facts.specs.{reported_seen, senders_seen, set_seen}
use Rattle.ide_why.specs.Places.{refusing_on_line}
use Rattle.ide_why.specs.Reading.{bindings_read, face_read, held_read, owner_face, requester_read, statuses_read}
use Rattle.ide_why.specs.Reading.{stream_read, device_interface_read}

abbrev pub state_of_whole : Plan → WholeLinks → LinkState
state_of_whole plan s = links_state plan s.links

abbrev pub known_read : Option FaceSeen → List Fact
known_read None = []
known_read (Some f) = face_seen f

-- ---- sends

abbrev pub owner_facts : Plan → WholeLinks → PortName → HeadView → List Fact
owner_facts plan s end head = if sets_own_t plan end then known_read (owner_face s (owners_link plan end) head) else []

abbrev pub stream_sends : Plan → WholeLinks → PortName → ℕ → HeadView → Option StreamFacts → List Fact
stream_sends plan s end stream head None = []
stream_sends plan s end stream head (Some f) =
    sends_fact plan end stream (class_of head)
    ∷ (senders_seen f (class_of head) ++ owner_facts plan s end head)

abbrev pub sending_facts : Plan → WholeLinks → PortName → Outgoing → List Fact
sending_facts plan s end (NoTlp f) = at_port plan end ∷ []
sending_facts plan s end OnNone = at_port plan end ∷ []
sending_facts plan s end (OnStream t stream) = stream_sends plan s end stream (header t) (stream_read plan s end stream)

abbrev pub sent_facts : Plan → WholeLinks → PortName → List ℕ → List Fact
sent_facts plan s port bytes =
    if may_send plan port
    then sending_facts plan s (sealing_end plan port bytes) (outgoing_at plan (sealing_end plan port bytes) bytes)
    else []

-- ---- arrivals

-- what is read of what stands beside the ports
abbrev pub readings_read : WholeLinks → Readings
readings_read s = record {
  known = λ link requester. known_read (requester_read s link requester);
  numbered = λ link requester. option_map (λ (f : FaceSeen). f.number) (requester_read s link requester);
  waiting = λ port. length (reads_at s.accesses port);
  statuses = statuses_read s;
}

-- under a Live key; `held` are the packets of its unit that are held
abbrev pub asks_if : Plan → WholeLinks → PortName → List Packet → Packet → Bool → List Fact
asks_if plan s end held p live =
    if live then unit_facts plan (readings_read s) (port_of plan end) p.prefix.sub held p else []

abbrev pub asks_read_facts : Plan → WholeLinks → PortName → StreamFacts → List Packet → Packet → List Fact
asks_read_facts plan s end f held p =
    if f.failed then []
    else asks_if plan s end held p
    (is_live_seen (set_seen p.prefix.k (lane_seen f p.prefix.sub).receiver.sets))

abbrev pub received_read : Plan → WholeLinks → PortName → List Packet → Packet → Option StreamFacts → List Fact
received_read plan s end held p None = []
received_read plan s end held p (Some f) =
    state_fact f.status ∷ (receiver_seen f p.prefix.sub ++ asks_read_facts plan s end f held p)

abbrev pub met_facts : Plan → WholeLinks → PortName → Result CutValue PacketFault → List Fact
met_facts plan s end (Err f) = at_port plan end ∷ []
met_facts plan s end (Ok PlainTlp) = at_port plan end ∷ []
met_facts plan s end (Ok (IdePacket p)) =
    arrives_fact plan end p
    ∷ received_read plan s end (held_read plan s end p.prefix.stream p.prefix.sub p.prefix.k) p
    (stream_read plan s end p.prefix.stream)

abbrev pub arrival_facts : Plan → WholeLinks → List Fact → Option ArrivedBytes → List Fact
arrival_facts plan s unnamed None = unnamed
arrival_facts plan s unnamed (Some a) =
    if goes_through plan a.port a.bytes then at_port plan a.port ∷ [] else met_facts plan s a.port (cut_of a.bytes)

abbrev pub sealed_facts : Plan → WholeLinks → List Fact
sealed_facts plan s = packets_fact (length (state_of_whole plan s).packets)

-- of bytes that an event brings
abbrev pub brought_facts : Plan → WholeLinks → Event → List Fact
brought_facts plan s e = arrival_facts plan s (sealed_facts plan s) (arrival_of plan (state_of_whole plan s) e)

abbrev pub arrived_facts : Plan → WholeLinks → PortName → List ℕ → List Fact
arrived_facts plan s port bytes =
    arrival_facts plan s [] (arrival_of plan (state_of_whole plan s) (event.Arrive port bytes))

-- ---- operations on streams

-- the first place that refuses a KEY_PROG of this set from an exchange on
abbrev pub refusal_facts : Plan → Operation → Option Place → List Fact
refusal_facts plan o None = []
refusal_facts plan o (Some p) = refuses_fact plan (program_exchange o (key_place p)) (key_place p) ∷ []

abbrev pub refusing_read : Plan → WholeLinks → Operation → Bool → ℕ → ℕ → ℕ → List Fact
refusing_read plan s op.Stop set first line stream = []
refusing_read plan s o set first line stream = refusal_facts plan o (refusing_on_line plan s o set first line stream)

abbrev pub exchanges_read : Plan → WholeLinks → Operation → ℕ → ℕ → StreamStage → List Fact
exchanges_read plan s o line stream q =
    if may_go o q
    then fact.Operation (of.Exchanges (work_of o q 0).first (last_exchange_of (is_hosted line) o))
    ∷ (refusing_read plan s o (work_of o q 0).set (work_of o q 0).first line stream
    ++ key_exchanges plan line stream o (work_of o q 0).set (work_of o q (state_of_whole plan s).draws).draw
    (work_of o q 0).first)
    else []

abbrev pub establish_read : Plan → WholeLinks → ℕ → ℕ → List Fact
establish_read plan s line stream =
    let st = state_of_whole plan s in
    if_found (find_op plan st line stream) (λ q. manager_fact q ∷ draws_fact st.draws (pool_of plan)
    ∷ exchanges_read plan s op.Establish line stream q)

-- at the host's port, where a refresh begins
abbrev pub opens_read : Plan → WholeLinks → ℕ → ℕ → StreamStage → List Fact
opens_read plan s line stream (Up set draw) = opens_seen (stream_read plan s (host_port line) stream) (not set)
opens_read plan s line stream q = []

abbrev pub refresh_read : Plan → WholeLinks → ℕ → ℕ → List Fact
refresh_read plan s line stream =
    let st = state_of_whole plan s in
    if is_link_line line
    then if_found (find_op plan st line stream) (λ q. manager_fact q
    ∷ state_fact (machine_status plan st Host line stream)
    ∷ draws_fact st.draws (pool_of plan)
    ∷ (opens_read plan s line stream q ++ exchanges_read plan s op.Refresh line stream q))
    else []

abbrev pub stop_read : Plan → WholeLinks → ℕ → ℕ → List Fact
stop_read plan s line stream =
    let st = state_of_whole plan s in
    if_found (find_op plan st line stream) (λ q. manager_fact q ∷ exchanges_read plan s op.Stop line stream q)

abbrev pub status_read : Plan → WholeLinks → ℕ → ℕ → List Fact
status_read plan s line stream =
    let st = state_of_whole plan s in
    if_found (find_op plan st line stream) (λ q. manager_fact q ∷ [])

-- ---- events on interfaces

abbrev pub host_fact : Plan → WholeLinks → FaceSeen → Fact
host_fact plan s f = state_fact (machine_status plan (state_of_whole plan s) Host f.manager.link f.manager.stream)

-- of a stream between devices
abbrev pub bind_read : Plan → WholeLinks → FaceSeen → ℕ → ℕ → List Fact
bind_read plan s f line stream =
    peer_facts (op_or_idle (find_op plan (state_of_whole plan s) line stream))
    (slice_index_or s.links.keeper.peer_draws (peer_of line) 0) (peer_live s.links.ends f.manager.link stream)
    ++ takes_facts (bindings_read s f.number)

abbrev pub besides_read : Plan → WholeLinks → FaceSeen → InterfaceEvent → List Fact
besides_read plan s f (ie.Lock i loss) = host_fact plan s f ∷ []
besides_read plan s f (ie.Start i loss) = host_fact plan s f ∷ draw_fact f.manager.draw ∷ []
besides_read plan s f (ie.Halt i loss) =
    fact.Interface (face.Started f.manager.started) ∷ draws_fact (state_of_whole plan s).draws (pool_of plan) ∷ []
besides_read plan s f (ie.Bind i line stream loss) =
    if has_peer plan.peers f.manager.link line stream then bind_read plan s f line stream else []
besides_read plan s f (ie.Unbind i line stream loss) =
    if has_peer plan.peers f.manager.link line stream then takes_facts (bindings_read s f.number) else []
besides_read plan s f e = []

-- of an interface that is laid out so and stands so at its device
abbrev pub exchanges_of : Plan → ℕ → InterfaceEvent → Option InterfacePlan → Option DeviceTdi → List Fact
exchanges_of plan link e (Some p) (Some t) = interface_exchanges plan link p t e
exchanges_of plan link e _ _ = []

abbrev pub exchanges_asked : Plan → WholeLinks → FaceSeen → InterfaceEvent → List Fact
exchanges_asked plan s f e =
    exchanges_of plan f.manager.link e (interface_planned plan.links f.number) (device_interface_read s f.number)

abbrev pub asked_by_face : Plan → WholeLinks → InterfaceEvent → Option FaceSeen → List Fact
asked_by_face plan s e None = []
asked_by_face plan s e (Some f) =
    face_seen f ++ reported_seen f.manager.reported ++ besides_read plan s f e ++ exchanges_asked plan s f e

abbrev pub asked_by_number : Plan → WholeLinks → InterfaceEvent → Option ℕ → List Fact
asked_by_number plan s e None = memory_facts plan e
asked_by_number plan s e (Some i) = asked_by_face plan s e (face_read s i)

-- ---- answers to reads, and forwards

abbrev pub completion_read : Option StreamFacts → List Fact
completion_read None = []
completion_read (Some f) = completion_seen f

abbrev pub reader_read : Plan → WholeLinks → Option FaceSeen → List Fact
reader_read plan s None = []
reader_read plan s (Some f) =
    face_seen f ++ completion_read (stream_read plan s (host_port f.manager.link) f.manager.stream)

abbrev pub waiting_read : Plan → WholeLinks → Side → ℕ → WaitingRead → List Fact
waiting_read plan s Host link r =
    read_fact r.came.draw ∷ reader_read plan s (requester_read s link r.read.requester)
waiting_read plan s Device link r =
    response_facts plan (readings_read s) link r (completion_read (stream_read plan s r.came.end r.came.stream))

abbrev pub queue_read : Plan → WholeLinks → Side → ℕ → List Fact
queue_read plan s side link =
    queue_facts (has_link plan link) (waiting_read plan s side link)
    (reads_at s.accesses (record { side = side; line = link }))

abbrev pub first_read : Plan → WholeLinks → PortName → List HopTlp → List Fact
first_read plan s end [] = []
first_read plan s end (x ∷ xs) = sending_facts plan s end (outgoing_at plan end x.bytes)

abbrev pub forward_read : Plan → WholeLinks → ℕ → Direction → List Fact
forward_read plan s link d =
    if has_hop plan link
    then waiting_fact (length (carried_on_link s.accesses link d))
    ∷ first_read plan s (leaving_end link d) (carried_on_link s.accesses link d) else []

-- ---- the memory of interfaces

abbrev pub shown_seen : ℕ → ℕ → Option DeviceTdi → List Fact
shown_seen number bar None = []
shown_seen number bar (Some t) = shown_facts number t bar

abbrev pub shown_read : WholeLinks → ℕ → ℕ → List Fact
shown_read s number bar = shown_seen number bar (device_interface_read s number)

-- ---- resets

abbrev pub cleared_read : Plan → WholeLinks → PortName → List StreamPlan → List Fact
cleared_read plan s end [] = []
cleared_read plan s end (x ∷ xs) =
    clears_fact plan end x.id (machine_status plan (state_of_whole plan s) end.side end.line x.id)
    ∷ (status_read plan s end.line x.id ++ cleared_read plan s end xs)

abbrev pub reset_read : Plan → WholeLinks → List PortName → List Fact
reset_read plan s [] = []
reset_read plan s (e ∷ es) = cleared_read plan s e (streams_of plan e.line) ++ reset_read plan s es

-- ---- all events

abbrev pub facts_read : Plan → WholeLinks → Event → List Fact
facts_read plan s (event.Send port bytes more trusted) = sent_facts plan s port bytes
facts_read plan s (event.Pass n) = brought_facts plan s (event.Pass n)
facts_read plan s (event.Alter n at mask) = brought_facts plan s (event.Alter n at mask)
facts_read plan s (event.Cut n len) = brought_facts plan s (event.Cut n len)
facts_read plan s (event.Arrive port bytes) = arrived_facts plan s port bytes
facts_read plan s (event.Dump n) = sealed_facts plan s
facts_read plan s (event.Establish line stream loss) = establish_read plan s line stream
facts_read plan s (event.Refresh line stream loss) = refresh_read plan s line stream
facts_read plan s (event.Stop line stream loss) = stop_read plan s line stream
facts_read plan s (event.Status line stream) = status_read plan s line stream
facts_read plan s (event.Interface e) = asked_by_number plan s e (number_in e)
facts_read plan s (event.Access (ae.Answer link)) = queue_read plan s Host link
facts_read plan s (event.Access (ae.Respond link)) = queue_read plan s Device link
facts_read plan s (event.Access (ae.Mmio interface bar offset len)) = shown_read s interface bar
facts_read plan s (event.Forward link d) = forward_read plan s link d
facts_read plan s (event.Reset link ends) = if has_link plan link then reset_read plan s ends else []
facts_read plan s event.Absent = []
