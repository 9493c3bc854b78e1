-- What a verdict came from, by the events before it with their verdicts: each number is the one that the definitions of
-- the history give there.
use Rattle.std.specs.Prelude.{ℕ, ◌&&◌, ◌||◌, Bool, true, false, not, is_some, if◌then◌else◌}
use Rattle.std.specs.Prelude.{List, [], ◌∷◌, ◌++◌, length, sum_by, Option, Some, None, Result, Ok, Err}
use Rattle.std.specs.Option.{option_map}
use Rattle.ide_types.specs.{is_link_line}
use Rattle.ide_types.specs.declared.port.PortName.{PortName}
use Rattle.ide_types.specs.declared.port.Side.{Side}
use Rattle.ide_types.specs.declared.port.Side.TheVariants.{Host, Device}
use Rattle.ide_types.specs.declared.sub.SubKind.{SubKind}
use Rattle.ide_types.specs.declared.sub.SubKind.TheVariants.{Cpl}
use Rattle.ide_types.specs.Ports.{host_port}
use Rattle.ide_types.specs.declared.direction.Direction.{Direction}
use Rattle.ide_types.specs.declared.plan.Plan.{Plan}
use Rattle.ide_types.specs.declared.stream.StreamPlan.{StreamPlan}
use Rattle.tlp_layout.specs.declared.head.HeadView.{HeadView}
use Rattle.tlp_layout.specs.Class.{class_of}
use Rattle.tlp_layout.specs.Tlp.{header}
use Rattle.tlp_layout.specs.Outgoing.{Outgoing, NoTlp, OnNone, OnStream}
use Rattle.ide_prefix.specs.Packet.{Packet}
use Rattle.ide_prefix.specs.Reading.{CutValue, PlainTlp, IdePacket, cut_of}
use Rattle.ide_prefix.specs.declared.fault.PacketFault.{PacketFault}
use Rattle.script_events.specs.declared.event.Event.{Event}
use Rattle.script_events.specs.declared.event.Event.TheVariants as event
use Rattle.script_events.specs.declared.event.InterfaceEvent.{InterfaceEvent}
use Rattle.script_events.specs.declared.event.AccessEvent.TheVariants as ae
use Rattle.spec_keys.specs.Keys.{Keyed, Off, Loaded, On}
use Rattle.spec_keys.specs.History.{History, base, op_of, draws, history_status}
use Rattle.spec_keys.specs.Due.{ports_at}
use Rattle.spec_interfaces.specs.Sites.{Site, site_at, site_of_requester}
use Rattle.spec_interfaces.specs.Views.{managed_view, number_in}
use Rattle.spec_interfaces.specs.Devices.{interface_at}
use Rattle.spec_interfaces.specs.Due.{asked_state}
use Rattle.spec_interfaces.specs.Floors.{history_statuses}
use Rattle.spec_interfaces.specs.Cause.{is_peer, owner_site, owners_link}
use Rattle.spec_links.specs.{WaitingRead, has_hop, leaving_end, waiting_reads, hop_waiting}
use Rattle.spec_links.specs.Hops.{HopTlp}
use Rattle.spec_links.specs.Plan.{SubStream, has_link, has_stream, is_closed, lane_in, lane_out, stream_plan}
use Rattle.spec_links.specs.Plan.{streams_of}
use Rattle.spec_links.specs.Ports.{at_switch, goes_through, may_send, outgoing_at, port_of, sealing_end}
use Rattle.spec_links.specs.History.{ArrivedBytes, arrival_of_event, has_failed, got_since, has_live_in, has_live_out}
use Rattle.spec_links.specs.History.{port_keys, on_draw, pending_packets, posted_count, posted_lane, sealed_packets}
use Rattle.spec_links.specs.History.{sent_packets, total_in, units_got, units_since, waits}
use Rattle.spec_links.specs.Units.{units, open_unit}
use Rattle.told_facts.specs.declared.fact.Fact.{Fact}
use Rattle.told_facts.specs.declared.fact.SetState.{SetState}
use Rattle.told_facts.specs.declared.fact.SetState.TheVariants as set
use Rattle.why_facts.specs.Forms.{Readings, arrives_fact, asked_facts, at_port, counts_facts, each_looked_at}
use Rattle.why_facts.specs.Forms.{clears_fact, establish_facts, face_facts, manager_fact, memory_facts, packets_fact}
use Rattle.why_facts.specs.Forms.{posted_fact, queue_facts, refresh_facts, response_facts, sends_fact, facts_of_sets}
use Rattle.why_facts.specs.Forms.{shown_facts, state_fact, stop_facts, total_facts, unit_facts, waiting_fact, read_fact}

-- ---- what is known of interfaces

abbrev pub site_due : Plan → History → Option Site → List Fact
site_due plan h None = []
site_due plan h (Some x) = face_facts x (interface_at plan h x) (managed_view h x)

abbrev pub readings_at : Plan → History → Readings
readings_at plan h = record {
  known = λ link requester. site_due plan h (site_of_requester plan link requester);
  numbered = λ link requester. option_map (λ (x : Site). x.number) (site_of_requester plan link requester);
  waiting = λ port. length (waiting_reads plan h port);
  statuses = history_statuses plan h;
}

-- ---- arrivals

-- how many packets are held for the next unit under a draw; a failed stream holds none
abbrev pub held_count : Plan → History → PortName → SubStream → ℕ → ℕ
held_count plan h port s j = if has_failed h port s.stream then 0 else length (pending_packets plan h s j)

-- what a set holds where a sub-stream is received
abbrev pub received_set : Plan → History → PortName → SubStream → Keyed → SetState
received_set plan h port s Off = set.Empty
received_set plan h port s (Loaded j) = set.Kept j
received_set plan h port s (On j) = set.On j (units_got h s j) (held_count plan h port s j)

abbrev pub received_sets : Plan → History → PortName → SubStream → List Fact
received_sets plan h port s =
    facts_of_sets (received_set plan h port s (port_keys h port s).first)
    (received_set plan h port s (port_keys h port s).second)

-- what was accepted since the last establish of its stream; the counts of a direction are 0 without a Live key
abbrev pub got_now : Plan → History → PortName → SubStream → List Packet
got_now plan h port s = if has_live_in h port s.stream then got_since plan h s (base h s.line s.stream) else []

abbrev pub counts_due : Plan → History → PortName → SubStream → List Fact
counts_due plan h port s =
    counts_facts s.sub (sum_by (λ (p : Packet). p.prefix.posted) (got_now plan h port s))
    (length (got_now plan h port (posted_lane s)))

abbrev pub total_got : Plan → History → PortName → SubStream → List Fact
total_got plan h port s =
    total_facts (is_closed plan s.line s.stream)
    (if has_live_in h port s.stream then units_since h s (base h s.line s.stream) else 0)

-- the packets that are held for the next unit under a draw
abbrev pub held_due : Plan → History → PortName → SubStream → ℕ → List Packet
held_due plan h port s j = if has_failed h port s.stream then [] else pending_packets plan h s j

-- of a packet under the draw that its key set has
abbrev pub asks_under : Plan → History → PortName → SubStream → Packet → Option ℕ → List Fact
asks_under plan h port s p None = []
asks_under plan h port s p (Some j) =
    unit_facts plan (readings_at plan h) (port_of plan port) p.prefix.sub (held_due plan h port s j) p

-- an insecure stream takes none
abbrev pub asks_due : Plan → History → PortName → SubStream → Packet → List Fact
asks_due plan h port s p =
    if has_failed h port s.stream then [] else asks_under plan h port s p (on_draw h port s p.prefix.k)

abbrev pub receiver_due : Plan → History → PortName → SubStream → List Fact
receiver_due plan h port s = received_sets plan h port s ++ counts_due plan h port s ++ total_got plan h port s

abbrev pub received_due : Plan → History → PortName → SubStream → Packet → List Fact
received_due plan h port s p =
    state_fact (history_status h port.side port.line s.stream)
    ∷ (receiver_due plan h port s ++ asks_due plan h port s p)

abbrev pub packet_due : Plan → History → PortName → Result CutValue PacketFault → List Fact
packet_due plan h port (Err f) = at_port plan port ∷ []
packet_due plan h port (Ok PlainTlp) = at_port plan port ∷ []
packet_due plan h port (Ok (IdePacket p)) =
    arrives_fact plan port p
    ∷ (if has_stream plan port p.prefix.stream
    then received_due plan h port (lane_in port p.prefix.stream p.prefix.sub) p else [])

-- `unnamed` is what is said if a packet or byte does not exist
abbrev pub arrival_facts_due : Plan → History → List Fact → Option ArrivedBytes → List Fact
arrival_facts_due plan h unnamed None = unnamed
arrival_facts_due plan h unnamed (Some a) =
    if goes_through plan a.port a.bytes then at_port plan a.port ∷ [] else packet_due plan h a.port (cut_of a.bytes)

abbrev pub sealed_due : Plan → History → List Fact
sealed_due plan h = packets_fact (length (sealed_packets plan h))

-- ---- sends

-- what a set holds where a sub-stream is sent, beside the other set
abbrev pub sent_set : Plan → History → SubStream → Bool → Keyed → Keyed → SetState
sent_set plan h s k Off other = set.Empty
sent_set plan h s k (Loaded j) other = set.Kept j
sent_set plan h s k (On j) other =
    if waits k j other then set.Waits j
    else set.On j (length (units (sent_packets plan h s j))) (length (open_unit (sent_packets plan h s j)))

abbrev pub sent_sets : Plan → History → PortName → SubStream → List Fact
sent_sets plan h port s =
    let keys = port_keys h port s in
    facts_of_sets (sent_set plan h s false keys.first keys.second) (sent_set plan h s true keys.second keys.first)

abbrev pub posted_now : Plan → History → PortName → SubStream → ℕ
posted_now plan h port s = if has_live_out h port s.stream then posted_count plan h s else 0

abbrev pub total_sent : Plan → History → PortName → SubStream → List Fact
total_sent plan h port s =
    total_facts (is_closed plan s.line s.stream)
    (if has_live_out h port s.stream then total_in (sealed_packets plan h) s (base h s.line s.stream) else 0)

abbrev pub sender_due : Plan → History → PortName → SubStream → List Fact
sender_due plan h port s =
    posted_fact s.sub (posted_now plan h port s) ∷ (sent_sets plan h port s ++ total_sent plan h port s)

abbrev pub senders_due : Plan → History → PortName → ℕ → SubKind → List Fact
senders_due plan h port stream class =
    state_fact (history_status h port.side port.line stream)
    ∷ each_looked_at (λ u. sender_due plan h port (lane_out port stream u)) class

-- by whose interface a device's port sets T
abbrev pub sets_own_t : Plan → PortName → Bool
sets_own_t plan end = not (at_switch plan end) && (is_peer plan end || is_device end.side)
  where
    is_device : Side → Bool
    is_device Host = false
    is_device Device = true

abbrev pub owner_due : Plan → History → PortName → HeadView → List Fact
owner_due plan h end head =
    if sets_own_t plan end then site_due plan h (owner_site plan (owners_link plan end) head) else []

abbrev pub send_facts_due : Plan → History → PortName → Outgoing → List Fact
send_facts_due plan h end (NoTlp f) = at_port plan end ∷ []
send_facts_due plan h end OnNone = at_port plan end ∷ []
send_facts_due plan h end (OnStream t stream) =
    if has_stream plan end stream
    then sends_fact plan end stream (class_of (header t))
    ∷ (senders_due plan h end stream (class_of (header t)) ++ owner_due plan h end (header t))
    else []

-- ---- answers to reads, and forwards

-- of a sender of completions on a stream of an end
abbrev pub completion_due : Plan → History → PortName → ℕ → List Fact
completion_due plan h port stream =
    if has_stream plan port stream
    then state_fact (history_status h port.side port.line stream)
    ∷ sender_due plan h port (lane_out port stream Cpl) else []

abbrev pub reader_due : Plan → History → Option Site → List Fact
reader_due plan h None = []
reader_due plan h (Some x) =
    face_facts x (interface_at plan h x) (managed_view h x) ++ completion_due plan h (host_port x.link) x.plan.stream

-- of a read that waits at a port of a link: at a host's by the interface that asked, at a device's where it came
abbrev pub waiting_due : Plan → History → Side → ℕ → WaitingRead → List Fact
waiting_due plan h Host link r =
    read_fact r.came.draw ∷ reader_due plan h (site_of_requester plan link r.read.requester)
waiting_due plan h Device link r =
    response_facts plan (readings_at plan h) link r (completion_due plan h r.came.end r.came.stream)

abbrev pub queue_due : Plan → History → Side → ℕ → List Fact
queue_due plan h side link =
    queue_facts (has_link plan link) (waiting_due plan h side link)
    (waiting_reads plan h (record { side = side; line = link }))

-- the first TLP that waits
abbrev pub first_due : Plan → History → PortName → List HopTlp → List Fact
first_due plan h end [] = []
first_due plan h end (x ∷ xs) = send_facts_due plan h end (outgoing_at plan end x.bytes)

abbrev pub forward_facts_due : Plan → History → ℕ → Direction → List Fact
forward_facts_due plan h link d =
    if has_hop plan link
    then waiting_fact (length (hop_waiting plan h link d))
    ∷ first_due plan h (leaving_end link d) (hop_waiting plan h link d) else []

-- ---- operations on streams

abbrev pub if_stream : Plan → ℕ → ℕ → List Fact → List Fact
if_stream plan line stream facts = if is_some (stream_plan plan line stream) then facts else []

-- ---- resets

-- of streams at an end
abbrev pub cleared_due : Plan → History → PortName → List StreamPlan → List Fact
cleared_due plan h end [] = []
cleared_due plan h end (s ∷ ss) =
    clears_fact plan end s.id (history_status h end.side end.line s.id)
    ∷ (if_stream plan end.line s.id (manager_fact (op_of h end.line s.id) ∷ []) ++ cleared_due plan h end ss)

abbrev pub reset_facts_due : Plan → History → List PortName → List Fact
reset_facts_due plan h [] = []
reset_facts_due plan h (e ∷ es) = cleared_due plan h e (streams_of plan e.line) ++ reset_facts_due plan h es

-- ---- events on interfaces

abbrev pub asked_site_due : Plan → History → InterfaceEvent → Option Site → List Fact
asked_site_due plan h e None = []
asked_site_due plan h e (Some x) = asked_facts plan x (asked_state plan h x) e

abbrev pub asked_facts_due : Plan → History → InterfaceEvent → Option ℕ → List Fact
asked_facts_due plan h e None = memory_facts plan e
asked_facts_due plan h e (Some i) = asked_site_due plan h e (site_at plan i)

-- ---- the memory of interfaces

abbrev pub bar_facts_due : Plan → History → ℕ → Option Site → List Fact
bar_facts_due plan h bar None = []
bar_facts_due plan h bar (Some x) = shown_facts x.number (interface_at plan h x) bar

-- ---- all events

unfoldable pub facts_due : Plan → History → Event → List Fact
facts_due plan h (event.Send port bytes more trusted) =
    if may_send plan port
    then send_facts_due plan h (sealing_end plan port bytes) (outgoing_at plan (sealing_end plan port bytes) bytes)
    else []
facts_due plan h (event.Pass n) = arrival_facts_due plan h (sealed_due plan h) (arrival_of_event plan h (event.Pass n))
facts_due plan h (event.Alter n at mask) =
    arrival_facts_due plan h (sealed_due plan h) (arrival_of_event plan h (event.Alter n at mask))
facts_due plan h (event.Cut n len) =
    arrival_facts_due plan h (sealed_due plan h) (arrival_of_event plan h (event.Cut n len))
facts_due plan h (event.Arrive port bytes) =
    arrival_facts_due plan h [] (arrival_of_event plan h (event.Arrive port bytes))
facts_due plan h (event.Dump n) = sealed_due plan h
facts_due plan h (event.Establish line stream loss) =
    if_stream plan line stream
    (establish_facts plan (ports_at h) line stream (op_of h line stream) (draws h))
facts_due plan h (event.Refresh line stream loss) =
    if is_link_line line
    then if_stream plan line stream (refresh_facts plan (ports_at h) line stream (op_of h line stream)
    (draws h) (history_status h Host line stream))
    else []
facts_due plan h (event.Stop line stream loss) =
    if_stream plan line stream (stop_facts plan (ports_at h) line stream (op_of h line stream) (draws h))
facts_due plan h (event.Status line stream) = if_stream plan line stream (manager_fact (op_of h line stream) ∷ [])
facts_due plan h (event.Interface e) = asked_facts_due plan h e (number_in e)
facts_due plan h (event.Access (ae.Answer link)) = queue_due plan h Host link
facts_due plan h (event.Access (ae.Respond link)) = queue_due plan h Device link
facts_due plan h (event.Access (ae.Mmio interface bar offset len)) = bar_facts_due plan h bar (site_at plan interface)
facts_due plan h (event.Forward link d) = forward_facts_due plan h link d
facts_due plan h (event.Reset link ends) = if has_link plan link then reset_facts_due plan h ends else []
facts_due plan h event.Absent = []
