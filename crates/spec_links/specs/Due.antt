-- The one verdict that an event gets after a history.
use Rattle.std.specs.Prelude.{if◌then◌else◌, ◌&&◌, ◌++◌, ◌+◌, ◌||◌, ◌∷◌, Bool, Err, List, None, Ok, Option}
use Rattle.std.specs.Prelude.{Result, Some, [], false, true, is_some, length, nat_le, nat_lt, not, ℕ}
use Rattle.spec_links.specs.Terms.{option_map_or, PortName, Device, Host, Plan, Access, Alter, Arrive, Cut, Dump, Event}
use Rattle.spec_links.specs.Terms.{Establish, Interface, Pass, Refresh, Reset, Send, Status, Stop, t_at, owners_link}
use Rattle.spec_links.specs.Terms.{granted_to, Site, site_of_requester, WaitingRead, owner_site, SealedPacket, UnitName}
use Rattle.spec_links.specs.Terms.{Verdict, header, iv_of, Packet, packet_bytes, CutValue, IdePacket, PlainTlp, cut_of}
use Rattle.spec_links.specs.Terms.{authenticated_bytes, encrypted_bytes, PacketFault, verifies, History, history_status}
use Rattle.spec_links.specs.Terms.{received_direction, TlpFault, Tlp, read_of, Claim, claim_of, judged_claim}
use Rattle.spec_links.specs.Terms.{least_draw}
use Rattle.spec_links.specs.Terms.{ReadArrival, ReadTarget, history_statuses, site_on}
use Rattle.ide_types.specs.Ports.{host_port, device_port}
use Rattle.spec_keys.specs.Due.{key_due}
use Rattle.spec_interfaces.specs.Due.{interface_verdict_due as interface_due}
use Rattle.tlp_layout.specs.Outgoing.{Outgoing, NoTlp, OnNone, OnStream, outgoing_of, stream_taken}
use Rattle.tlp_layout.specs.Class.{class_of}
use Rattle.tlp_layout.specs.Faults.{place_in}
use Rattle.ide_prefix.specs.Faults.{packet_place}
use Rattle.ide_prefix.specs.FaultWords.{tlp_word, packet_word}
use Rattle.ide_types.specs.declared.binding.Binding.{Binding}
use Rattle.ide_types.specs.declared.sub.FailCause.TheVariants as fail
use Rattle.spec_links.specs.Plan.{SubStream, key_plan, streams_of, stream_plan, lane_out, has_link, has_stream}
use Rattle.spec_links.specs.Plan.{aggregation_of, key_of}
use Rattle.spec_links.specs.Ports.{port_of, at_switch, may_send, outgoing_at, sealing_end, goes_through}
use Rattle.spec_links.specs.Units.{units, open_unit}
use Rattle.spec_links.specs.History.{ArrivedBytes, KeyName, sealed_packets, sent_packets, arrival_of_event}
use Rattle.spec_links.specs.History.{packet_by_number, pending_packets, units_got, on_draw, live_key, has_failed}
use Rattle.spec_links.specs.History.{posted_count, meets_counts, received_in, ahead_due, sent_bytes}
use Rattle.ide_types.specs.declared.sub.SubKind.TheVariants.{Cpl}
use Rattle.ide_types.specs.declared.verdict.InterfaceVerdict.TheVariants as iv
use Rattle.script_events.specs.declared.event.AccessEvent.TheVariants as ae
use Rattle.event_verdicts.specs.declared.access.AccessVerdict.TheVariants as av
use Rattle.event_verdicts.specs.declared.verdict.BlockCause.{BlockCause}
use Rattle.event_verdicts.specs.declared.verdict.BlockCause.TheVariants as cause
use Rattle.event_verdicts.specs.declared.verdict.Verdict.TheVariants as v
use Rattle.event_verdicts.specs.Causes.{binding_cause}
pub use Rattle.spec_links.specs.Memory.{effects_of, memory_due}
use Rattle.spec_links.specs.Hops.{HopTlp, has_hop, leaving_end}
use Rattle.spec_links.specs.Memory.{waiting_reads, hop_waiting}
use Rattle.ide_types.specs.declared.direction.Direction.{Direction}
use Rattle.script_events.specs.declared.event.Event.TheVariants.{Forward, Absent}
use Rattle.spec_links.specs.Guarded.{mmio_due}
use Rattle.tlp_layout.specs.declared.head.HeadView.{HeadView}
pub use Rattle.spec_stream.specs.Sending.{first_that_holds, Sending, Lane, Lanes, is_posted, begins_unit, needs_sync}
pub use Rattle.spec_stream.specs.Sending.{is_worn, is_keyless, refusals, no_key, described_seal, ends_unit}
pub use Rattle.spec_stream.specs.Sending.{sets_trusted, sync_before, sealed_with_syncs, verdict_of_send}

-- ---- sends

-- what a history says of a sub-stream that a port seals
abbrev pub packets_under_key : Plan → History → SubStream → Option KeyName → List Packet
packets_under_key plan h s None = []
packets_under_key plan h s (Some key) = sent_packets plan h s key.draw

abbrev pub lane_contents : Plan → History → PortName → SubStream → Lane
lane_contents plan h port s =
    let under = packets_under_key plan h s (live_key h port s) in
    record {
      key = live_key h port s;
      unfinished = open_unit under;
      units = length (units under);
      posted = posted_count plan h s;
    }

abbrev pub lanes_at : Plan → History → PortName → ℕ → Lanes
lanes_at plan h port stream = record {
  aggregation = aggregation_of plan port.line stream;
  limit = plan.units_per_key;
  failed = has_failed h port stream;
  lane = λ u. lane_contents plan h port (lane_out port stream u);
}

-- T of a TLP that an end seals on a stream: at a switch as it came
unfoldable pub t_sealed : Plan → History → PortName → HeadView → ℕ → Bool → Bool
t_sealed plan h end head stream trusted =
    if at_switch plan end then trusted else t_at plan h end (owner_site plan (owners_link plan end) head) stream trusted

-- of a TLP on a stream of an end, with this T
abbrev pub seal_due : Plan → History → PortName → Tlp → ℕ → Bool → Bool → Verdict
seal_due plan h port tlp stream more t =
    let s : Sending =
    record { port = port; stream = stream; class = class_of (header tlp); more = more; trusted = t } in
    verdict_of_send (lanes_at plan h port stream) s (length (sealed_packets plan h) + 1)

-- of a TLP on the line of an end
abbrev pub send_due : Plan → History → PortName → Outgoing → Bool → Bool → Verdict
send_due plan h port (NoTlp f) more trusted = v.Malformed (port_of plan port) (tlp_word f) (place_in f)
send_due plan h port OnNone more trusted = v.Plain (port_of plan port)
send_due plan h port (OnStream tlp stream) more trusted =
    seal_due plan h port tlp stream more (t_sealed plan h port (header tlp) stream trusted)

-- of bytes that are sent at an end
abbrev pub bytes_due : Plan → History → PortName → List ℕ → Bool → Bool → Verdict
bytes_due plan h end bytes more trusted = send_due plan h end (outgoing_at plan end bytes) more trusted

-- ---- reads that wait

-- the draw that completions are sealed under is less than the floor
abbrev pub is_before : Option KeyName → ℕ → Bool
is_before None floor = false
is_before (Some key) floor = nat_lt key.draw floor

abbrev pub draw_of : Option KeyName → ℕ
draw_of key = option_map_or (λ (k : KeyName). k.draw) key 0

-- a completion is sent as any TLP is under a key from the floor on
abbrev pub sent_from : ℕ → Option KeyName → Verdict → Verdict
sent_from floor key sent =
    if is_before key floor then v.Interface (iv.RefusedRefreshFirst (draw_of key) floor) else sent

-- the oldest read that waits at a port of this link
abbrev pub first_answered : (WaitingRead → Verdict) → ℕ → List WaitingRead → Verdict
first_answered answer link [] = v.Access (av.Empty link)
first_answered answer link (r ∷ rs) = answer r

abbrev pub read_due : Plan → History → PortName → (WaitingRead → Verdict) → Verdict
read_due plan h port answer =
    if has_link plan port.line then first_answered answer port.line (waiting_reads plan h port) else v.Nothing

-- ---- at a host's port

-- a read of an interface is dropped by a cause, if there is one
abbrev pub judged_by : ℕ → Binding → Option BlockCause → Result Binding Verdict
judged_by interface bound None = Ok bound
judged_by interface bound (Some c) = Err (v.Access (av.Dropped interface c))

-- of a read of an interface that came under this draw: by what the manager says of the interface, its binding, and by
-- the stream that the completion takes
abbrev pub judged_bound : Option ℕ → ℕ → ℕ → Option Binding → Result Binding Verdict
judged_bound taken interface draw None = Err (v.Access (av.Dropped interface cause.NotRunning))
judged_bound taken interface draw (Some bound) = judged_by interface bound (binding_cause bound taken draw)

-- as it was judged: with T, under a key of the bound stream
abbrev pub answer_judged : Plan → History → PortName → Outgoing → Result Binding Verdict → Verdict
answer_judged plan h port out (Err verdict) = verdict
answer_judged plan h port out (Ok bound) =
    sent_from bound.floor (live_key h port (lane_out port bound.stream Cpl)) (send_due plan h port out false true)

-- of an interface with this binding, if its view is Running, to a read that came under a draw
abbrev pub completion_verdict : Plan → History → PortName → ℕ → ℕ → Option Binding → Outgoing → Verdict
completion_verdict plan h port interface draw bound out =
    answer_judged plan h port out (judged_bound (stream_taken out) interface draw bound)

abbrev pub site_answer : Plan → History → PortName → ℕ → Option Site → Outgoing → Verdict
site_answer plan h port draw None out = v.Nothing
site_answer plan h port draw (Some x) out = completion_verdict plan h port x.number draw (granted_to h (Some x)) out

-- what the completion comes to at the host's port
abbrev pub outgoing_completion : Plan → History → ℕ → Outgoing
outgoing_completion plan h link = outgoing_of (streams_of plan link) Host (sent_bytes plan h (Access (ae.Answer link)))

abbrev pub answer_due : Plan → History → ℕ → Verdict
answer_due plan h link =
    read_due plan h (host_port link) (λ (r : WaitingRead). site_answer plan h (host_port link) r.came.draw
    (site_of_requester plan link r.read.requester)
    (outgoing_completion plan h link))

-- ---- at a device's port

-- on the stream and at the end on which its read came, with T as it had it
abbrev pub response_sent : Plan → History → ReadArrival → Result Tlp TlpFault → Verdict
response_sent plan h came (Err f) = v.Malformed (port_of plan came.end) (tlp_word f) (place_in f)
response_sent plan h came (Ok tlp) = seal_due plan h came.end tlp came.stream false came.trusted

-- of a read of an interface, as it was judged
abbrev pub response_judged : Plan → History → ReadArrival → ℕ → Result Tlp TlpFault → Result Claim BlockCause → Verdict
response_judged plan h came interface tlp (Err c) = v.Access (av.Dropped interface c)
response_judged plan h came interface tlp (Ok claim) =
    sent_from (least_draw claim came) (live_key h came.end (lane_out came.end came.stream Cpl))
    (response_sent plan h came tlp)

-- by how the interfaces stand now
abbrev pub site_response : Plan → History → ℕ → WaitingRead → ReadTarget → Option Site → Verdict
site_response plan h link r target None = v.Nothing
site_response plan h link r target (Some x) =
    response_judged plan h r.came x.number (read_of (sent_bytes plan h (Access (ae.Respond link))))
    (judged_claim (claim_of (history_statuses plan h link) r.read.span) target r.came)

abbrev pub target_response : Plan → History → ℕ → WaitingRead → Option ReadTarget → Verdict
target_response plan h link r None = v.Nothing
target_response plan h link r (Some target) = site_response plan h link r target (site_on plan link target.interface)

abbrev pub respond_due : Plan → History → ℕ → Verdict
respond_due plan h link =
    read_due plan h (device_port link) (λ (r : WaitingRead). target_response plan h link r r.target)

-- ---- what waits at switches

-- what the first TLP that waits comes to on the segment behind the switch
abbrev pub forward_out : Plan → History → ℕ → Direction → Outgoing
forward_out plan h link d = outgoing_at plan (leaving_end link d) (sent_bytes plan h (Forward link d))

-- it is sent as it came, with its T
abbrev pub forward_first : Plan → History → ℕ → Direction → List HopTlp → Verdict
forward_first plan h link d [] = v.Access (av.Empty link)
forward_first plan h link d (x ∷ xs) = send_due plan h (leaving_end link d) (forward_out plan h link d) false x.t

abbrev pub forward_due : Plan → History → ℕ → Direction → Verdict
forward_due plan h link d =
    if has_hop plan link then forward_first plan h link d (hop_waiting plan h link d) else v.Nothing

-- ---- arrivals

-- a packet whose tag is to be verified, with its unit
pub record Ending : Type 0 where
  pub packet : Packet
  pub unit : UnitName

-- the sub-stream in which a packet arrives
abbrev pub receiving_sub_stream : PortName → Packet → SubStream
receiving_sub_stream port p =
    record { line = port.line; stream = p.prefix.stream; direction = received_direction port.side; sub = p.prefix.sub }

-- whether packets of the other key set are held
abbrev pub is_mixed : Plan → History → SubStream → Option ℕ → Bool
is_mixed plan h s other = nat_lt 0 (option_map_or (λ i. length (pending_packets plan h s i)) other 0)

-- whether the packet leaves unfinished a unit that has no room for another
abbrev pub is_overfull : Plan → History → SubStream → ℕ → Bool → Bool
is_overfull plan h s j m = not m && nat_le (aggregation_of plan s.line s.stream)
    (length (pending_packets plan h s j) + 1)

abbrev pub next_unit_name : History → SubStream → ℕ → UnitName
next_unit_name h s j = record { stream = s.stream; sub = s.sub; draw = j; unit = units_got h s j + 1 }

-- what is left once the keys are known: that of the set that K names, and that of the other
abbrev pub under_keys : Plan → History → PortName → Packet → Option ℕ → Option ℕ → Result Ending Verdict
under_keys plan h port p None None = Err (v.NotKeyed port p.prefix.stream p.prefix.sub)
under_keys plan h port p None (Some i) = Err (v.Fail port p.prefix.stream p.prefix.sub fail.Key)
under_keys plan h port p (Some j) other =
    let s = receiving_sub_stream port p in
    if is_mixed plan h s other || is_overfull plan h s j p.prefix.m
    then Err (v.Fail port p.prefix.stream p.prefix.sub fail.Unit)
    else if p.prefix.m then Ok (record { packet = p; unit = next_unit_name h s j })
    else Err (v.Held port (next_unit_name h s j))

abbrev pub before_tag_of_cut : Plan → History → PortName → Result CutValue PacketFault → Result Ending Verdict
before_tag_of_cut plan h port (Err f) = Err (v.Malformed (port_of plan port) (packet_word f) (packet_place f))
before_tag_of_cut plan h port (Ok PlainTlp) = Err (v.Plain (port_of plan port))
before_tag_of_cut plan h port (Ok (IdePacket p)) =
    if not (has_stream plan port p.prefix.stream) then Err (v.Unknown (port_of plan port) p.prefix.stream)
    else if has_failed h port p.prefix.stream then Err (v.Insecure port p.prefix.stream)
    else under_keys plan h port p (on_draw h port (receiving_sub_stream port p) p.prefix.k)
    (on_draw h port (receiving_sub_stream port p)
    (not p.prefix.k))

-- of bytes that a switch leaves unread
abbrev pub through_due : Plan → PortName → Verdict
through_due plan port = v.Through (port_of plan port)

-- the packet whose tag is to be verified and its unit, or the verdict without that
unfoldable pub before_tag : Plan → History → ArrivedBytes → Result Ending Verdict
before_tag plan h a =
    if goes_through plan a.port a.bytes then Err (through_due plan a.port)
    else before_tag_of_cut plan h a.port (cut_of a.bytes)

-- the unit that a packet ends
abbrev pub unit_packets_ended : Plan → History → PortName → Ending → List Packet
unit_packets_ended plan h port x = pending_packets plan h (received_in port x.unit) x.unit.draw ++ x.packet ∷ []

-- whether the tag is that of the unit
unfoldable pub is_verified : Plan → History → PortName → Ending → Bool
is_verified plan h port x =
    verifies (key_of plan x.unit.draw (received_in port x.unit)) (iv_of x.unit.sub x.unit.unit)
    (ahead_due plan h (received_in port x.unit) x.unit.unit ++ authenticated_bytes (unit_packets_ended plan h port x))
    (encrypted_bytes (unit_packets_ended plan h port x)) x.packet.tag

abbrev pub ending_due : Plan → History → PortName → Result Ending Verdict → Verdict
ending_due plan h port (Err verdict) = verdict
ending_due plan h port (Ok x) =
    if not (is_verified plan h port x) then v.Fail port x.unit.stream x.unit.sub fail.Tag
    else if not (meets_counts plan h (received_in port x.unit) (unit_packets_ended plan h port x))
    then v.Fail port x.unit.stream
    x.unit.sub fail.Order
    else v.Accepted port x.unit (effects_of plan h port x.unit (unit_packets_ended plan h port x))

abbrev pub arrival_due : Plan → History → Option ArrivedBytes → Verdict
arrival_due plan h None = v.Nothing
arrival_due plan h (Some a) = ending_due plan h a.port (before_tag plan h a)

abbrev pub dump_due : ℕ → Option (SealedPacket × Packet) → Verdict
dump_due n None = v.Nothing
dump_due n (Some x) = v.Packet n (packet_bytes x.1)

-- ---- the verdict

-- Each event has one verdict. An operation and a reset get that of their keys, what is asked of an interface that of
-- the interfaces, an access that of the reads that wait or of a device's memory, a forward that of what waits at a
-- switch.
unfoldable pub due : Plan → History → Event → Verdict
due plan h (Send port bytes more trusted) =
    if may_send plan port then bytes_due plan h (sealing_end plan port bytes) bytes more trusted else v.Nothing
due plan h (Access (ae.Answer link)) = answer_due plan h link
due plan h (Access (ae.Respond link)) = respond_due plan h link
due plan h (Access (ae.Mmio interface bar offset len)) = mmio_due plan h interface bar offset len
due plan h (Dump n) = dump_due n (packet_by_number (sealed_packets plan h) n)
due plan h (Establish line stream lose) = key_due (key_plan plan) h (Establish line stream lose) v.Nothing
due plan h (Refresh line stream lose) = key_due (key_plan plan) h (Refresh line stream lose) v.Nothing
due plan h (Stop line stream lose) = key_due (key_plan plan) h (Stop line stream lose) v.Nothing
due plan h (Reset link ends) = key_due (key_plan plan) h (Reset link ends) v.Nothing
due plan h (Interface e) = interface_due plan h e (memory_due plan h e)
due plan h (Status line stream) =
    if is_some (stream_plan plan line stream) then v.Status line stream (history_status h Host line stream)
    (history_status h Device line stream) else v.Nothing
due plan h (Pass n) = arrival_due plan h (arrival_of_event plan h (Pass n))
due plan h (Alter n at mask) = arrival_due plan h (arrival_of_event plan h (Alter n at mask))
due plan h (Cut n len) = arrival_due plan h (arrival_of_event plan h (Cut n len))
due plan h (Forward link d) = forward_due plan h link d
due plan h Absent = v.Nothing
due plan h (Arrive port bytes) = arrival_due plan h (arrival_of_event plan h (Arrive port bytes))
