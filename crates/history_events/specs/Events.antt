-- The event of a history that an event of a script is, in a topology: lines and ends in place of links, of hops and of
-- streams between devices. What the topology does not have comes to an event that asks for nothing.
use Rattle.std.specs.Prelude.{ℕ, ◌==◌, ◌||◌, nat_lt, Bool, true, false, List, Option, Some, None, length, slice_get}
use Rattle.std.specs.Prelude.{is_some, if◌then◌else◌}
use Rattle.ide_types.specs.declared.port.Side.{Side}
use Rattle.ide_types.specs.declared.port.PortName.{PortName}
use Rattle.ide_types.specs.Sub.{upstream_if}
use Rattle.ide_types.specs.Lines.{near_hop_line, far_hop_line, peer_line}
use Rattle.ide_types.specs.declared.plan.HopPlan.{HopPlan}
use Rattle.ide_types.specs.declared.plan.PeerPlan.{PeerPlan}
use Rattle.ide_types.specs.declared.plan.Plan.{Plan}
use Rattle.ide_types.specs.Ends.{own_has_id, link_hop, is_planned_port, reset_ends, interface_link}
use Rattle.history_events.specs.Terms.{Establish, Refresh, Stop, Send, PeerSend, Pass, Alter, Cut, Arrive, ScriptEvent}
use Rattle.history_events.specs.Terms.{Dump, Reset, Status, Interface, Access, Peer, PeerEvent, Hop, HopEvent, Event}
use Rattle.history_events.specs.Terms.{Loss}
use Rattle.history_events.specs.Terms.event
use Rattle.history_events.specs.Terms.pe
use Rattle.history_events.specs.Terms.he
use Rattle.history_events.specs.Terms.ie

-- ---- streams that are named: each by its line and its ID, if it is there

-- a stream of a link
abbrev pub own_stream : Plan → ℕ → ℕ → Option (ℕ × ℕ)
own_stream plan link stream = if own_has_id (slice_get plan.links link) stream then Some (link, stream) else None

-- a stream between devices, by its number
abbrev pub peer_stream_of_plan : Option PeerPlan → ℕ → Option (ℕ × ℕ)
peer_stream_of_plan None peer = None
peer_stream_of_plan (Some p) peer = Some (peer_line peer, p.id)

abbrev pub peer_stream : Plan → ℕ → Option (ℕ × ℕ)
peer_stream plan peer = peer_stream_of_plan (slice_get plan.peers peer) peer

-- the stream of a hop on a segment of its link: 0 towards the host, 1 towards the device
abbrev pub segment_stream : Option HopPlan → ℕ → ℕ → Option (ℕ × ℕ)
segment_stream None link segment = None
segment_stream (Some o) link segment =
    if segment == 0 then Some (near_hop_line link, o.id)
    else if segment == 1 then Some (far_hop_line link, o.id)
    else None

abbrev pub hop_stream : Plan → ℕ → ℕ → Option (ℕ × ℕ)
hop_stream plan link segment = segment_stream (link_hop (slice_get plan.links link)) link segment

-- a stream between devices that ends at the link
abbrev pub ends_at : Option PeerPlan → Option ℕ → Bool
ends_at (Some p) (Some link) = p.near == link || p.far == link
ends_at _ _ = false

-- a stream between devices that ends at the device of the interface
abbrev pub bound_stream : Plan → ℕ → ℕ → Option (ℕ × ℕ)
bound_stream plan interface peer =
    if ends_at (slice_get plan.peers peer) (interface_link plan.links 0 interface) then peer_stream plan peer else None

-- ---- the event on such a stream

abbrev pub establish_event : Option Loss → Option (ℕ × ℕ) → Event
establish_event lose None = event.Absent
establish_event lose (Some s) = event.Establish s.0 s.1 lose

abbrev pub refresh_event : Option Loss → Option (ℕ × ℕ) → Event
refresh_event lose None = event.Absent
refresh_event lose (Some s) = event.Refresh s.0 s.1 lose

abbrev pub stop_event : Option Loss → Option (ℕ × ℕ) → Event
stop_event lose None = event.Absent
stop_event lose (Some s) = event.Stop s.0 s.1 lose

abbrev pub status_event : Option (ℕ × ℕ) → Event
status_event None = event.Absent
status_event (Some s) = event.Status s.0 s.1

abbrev pub send_event : Side → List ℕ → Bool → Option (ℕ × ℕ) → Event
send_event side bytes more None = event.Absent
send_event side bytes more (Some s) = event.Send (record { side = side; line = s.0 }) bytes more false

abbrev pub bind_event : ℕ → Option Loss → Option (ℕ × ℕ) → Event
bind_event interface lose None = event.Absent
bind_event interface lose (Some s) = event.Interface (ie.Bind interface s.0 s.1 lose)

abbrev pub unbind_event : ℕ → Option Loss → Option (ℕ × ℕ) → Event
unbind_event interface lose None = event.Absent
unbind_event interface lose (Some s) = event.Interface (ie.Unbind interface s.0 s.1 lose)

abbrev pub forward_event : Plan → ℕ → ℕ → Event
forward_event plan link direction =
    if is_some (link_hop (slice_get plan.links link)) then
    if direction == 0 then event.Forward link (upstream_if false)
    else if direction == 1 then event.Forward link (upstream_if true)
    else event.Absent
    else event.Absent

abbrev pub arrive_event : Plan → PortName → List ℕ → Event
arrive_event plan port bytes = if is_planned_port plan port then event.Arrive port bytes else event.Absent

abbrev pub reset : Plan → ℕ → Event
reset plan link = if nat_lt link (length plan.links) then event.Reset link (reset_ends plan link) else event.Absent

-- ---- the event

abbrev pub peer_event_in : Plan → PeerEvent → Event
peer_event_in plan (pe.Establish peer lose) = establish_event lose (peer_stream plan peer)
peer_event_in plan (pe.Stop peer lose) = stop_event lose (peer_stream plan peer)
peer_event_in plan (pe.Bind interface peer lose) = bind_event interface lose (bound_stream plan interface peer)
peer_event_in plan (pe.Unbind interface peer lose) = unbind_event interface lose (bound_stream plan interface peer)

abbrev pub hop_event_in : Plan → HopEvent → Event
hop_event_in plan (he.Establish link segment lose) = establish_event lose (hop_stream plan link segment)
hop_event_in plan (he.Stop link segment lose) = stop_event lose (hop_stream plan link segment)
hop_event_in plan (he.Forward link direction) = forward_event plan link direction

unfoldable pub event_of : Plan → ScriptEvent → Event
event_of plan (Establish link stream lose) = establish_event lose (own_stream plan link stream)
event_of plan (Refresh link stream lose) = refresh_event lose (own_stream plan link stream)
event_of plan (Stop link stream lose) = stop_event lose (own_stream plan link stream)
event_of plan (Send port bytes more trusted) = event.Send port bytes more trusted
event_of plan (PeerSend peer side bytes more) = send_event side bytes more (peer_stream plan peer)
event_of plan (Pass packet) = event.Pass packet
event_of plan (Alter packet at mask) = event.Alter packet at mask
event_of plan (Cut packet len) = event.Cut packet len
event_of plan (Arrive port bytes) = arrive_event plan port bytes
event_of plan (Dump packet) = event.Dump packet
event_of plan (Reset link) = reset plan link
event_of plan (Status link stream) = status_event (own_stream plan link stream)
event_of plan (Interface e) = event.Interface e
event_of plan (Access e) = event.Access e
event_of plan (Peer e) = peer_event_in plan e
event_of plan (Hop e) = hop_event_in plan e
