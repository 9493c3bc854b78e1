-- What is kept of all links between two events, and one step.
use Rattle.std.specs.Prelude.{true, false, not, ◌&&◌, ℕ, ◌+◌, ◌-◌, ◌*◌, ◌==◌, nat_lt, nat_le, Bool, if◌then◌else◌}
use Rattle.std.specs.Prelude.{List, [], ◌∷◌, ◌++◌, length, map, take, slice_get, slice_index, slice_set, bit_xor}
use Rattle.std.specs.Prelude.{Option, Some, None, is_some, unwrap_or, Result, Ok, Err}
use Rattle.std.specs.List.{slice_index_or}
use Rattle.std.specs.Option.{option_and_then}
use Rattle.spec_stream.specs.Stream.{unit_name}
use Rattle.ide_types.specs.declared.port.PortName.{PortName}
use Rattle.script_events.specs.declared.event.Event.TheVariants.{
  Send,
  Pass,
  Alter,
  Cut,
  Arrive,
  Dump,
  Establish,
  Refresh,
}
use Rattle.script_events.specs.declared.event.Event.TheVariants.{
  Stop,
  Reset,
  Status,
  Interface,
  Access,
  Forward,
  Absent,
}
use Rattle.script_events.specs.declared.event.AccessEvent.TheVariants as ae
use Rattle.ide_types.specs.declared.verdict.InterfaceVerdict.TheVariants as iv
use Rattle.event_verdicts.specs.declared.verdict.Verdict.{Verdict}
use Rattle.event_verdicts.specs.declared.verdict.Verdict.TheVariants as v
use Rattle.event_verdicts.specs.declared.verdict.SealedPacket.{SealedPacket}
use Rattle.event_verdicts.specs.declared.verdict.UnitName.{UnitName}
use Rattle.tlp_layout.specs.declared.tlp.Tlp.{Tlp}
use Rattle.tlp_layout.specs.Class.{class_of}
use Rattle.tlp_layout.specs.Faults.{place_in}
use Rattle.tlp_layout.specs.Head.{head_bytes}
use Rattle.tlp_layout.specs.Tlp.{header, body}
use Rattle.tlp_layout.specs.Outgoing.{Outgoing, NoTlp, OnNone, OnStream}
use Rattle.tlp_layout.specs.Reading.{read_of}
use Rattle.tlp_layout.specs.declared.fault.TlpFault.{TlpFault}
use Rattle.ide_prefix.specs.declared.fault.PacketFault.{PacketFault}
use Rattle.ide_prefix.specs.Faults.{packet_place}
use Rattle.ide_prefix.specs.Packet.{Packet, packet_bytes}
use Rattle.ide_prefix.specs.Reading.{CutValue, PlainTlp, IdePacket, cut_of}
use Rattle.ide_prefix.specs.FaultWords.{tlp_word, packet_word}
use Rattle.ide_types.specs.declared.port.Side.{Side}
use Rattle.ide_types.specs.declared.port.Side.TheVariants.{Host, Device}
use Rattle.ide_types.specs.declared.sub.SubKind.{SubKind}
use Rattle.ide_types.specs.declared.sub.SubKind.TheVariants.{Cpl}
use Rattle.script_events.specs.declared.event.Loss.{Loss}
use Rattle.event_verdicts.specs.declared.verdict.Operation.{Operation}
use Rattle.event_verdicts.specs.declared.verdict.Operation.TheVariants as op
use Rattle.ide_types.specs.declared.status.StreamStatus.{StreamStatus}
use Rattle.ide_types.specs.declared.status.StreamStatus.TheVariants as status
use Rattle.spec_keys.specs.Places.{KeyPlace, is_between_devices, sent_direction}
use Rattle.ide_types.specs.Lines.{is_hosted, is_link_line}
use Rattle.ide_types.specs.Ports.{host_port, device_port}
use Rattle.spec_keys.specs.Keys.{Touch, refusal_if, is_some_below}
use Rattle.spec_keys.specs.Operations.{StreamStage, Idle, Stopping, Work, Reach, work_of, reach_of, op_after_reach}
use Rattle.spec_keys.specs.Operations.{makes_draw}
use Rattle.spec_keys.specs.History.{work_touches}
use Rattle.spec_keys.specs.Due.{PortView, establish_on, refresh_on, stop_on}
use Rattle.machine_ports.specs.Touches.{taken_touches, touched_stream}
use Rattle.spec_links.specs.Plan.{SubStream, key_plan, partner, key_of, streams_of, has_port, aggregation_of, is_closed}
use Rattle.spec_links.specs.Plan.{streams_by_line}
use Rattle.spec_links.specs.Ports.{port_of, may_send, outgoing_at, sealing_end, goes_through}
use Rattle.spec_links.specs.Packets.{arrival_at}
use Rattle.ide_types.specs.declared.plan.Plan.{Plan}
use Rattle.ide_types.specs.declared.stream.StreamPlan.{StreamPlan}
use Rattle.tlp_layout.specs.declared.head.HeadView.{HeadView}
use Rattle.event_verdicts.specs.declared.verdict.Effect.{Effect}
use Rattle.script_events.specs.declared.event.InterfaceEvent.{InterfaceEvent}
use Rattle.spec_links.specs.Due.{Sending, refusals, sealed_with_syncs, first_that_holds, through_due}
use Rattle.spec_links.specs.History.{ArrivedBytes}
use Rattle.ide_types.specs.declared.direction.Direction.{Direction}
use Rattle.spec_links.specs.Hops.{HopTlp, leaving_end}
use Rattle.machine_ports.specs.Replies.{ReadCompletion}
use Rattle.machine_ports.specs.Stream.{LaneSlot, LaneSlots, slot_in_set, LiveKey, Live, StreamState}
use Rattle.machine_ports.specs.Stream.{is_live_slot, slots_at, stream_status, no_stream, sealing_draw, receiving_draw}
use Rattle.machine_ports.specs.Stream.{PacketOutcome, Insecure, NotKeyed, Failed, Held, Accepted, lanes_of, sealed_all}
use Rattle.machine_ports.specs.Stream.{stream_outcome, state_after}
use Rattle.script_events.specs.declared.event.Event.{Event}

-- a sealed packet: the end that sealed it, and its bytes
pub record LinkPacket : Type 0 where
  pub port : PortName
  pub bytes : List ℕ

-- of each end, 2 for each line, its streams in the plan's order; of each line the manager's operations on its streams
-- in that order; how many draws were made; and all sealed packets in order
pub record LinkState : Type 0 where
  pub ports : List (List StreamState)
  pub ops : List (List StreamStage)
  pub draws : ℕ
  pub packets : List LinkPacket

-- ---- one stream at a port

abbrev pub port_place : PortName → ℕ
port_place port = 2 * port.line + sent_direction port.side

abbrev pub found_by_id : {A : Type 0} → List StreamPlan → List A → ℕ → Option A
found_by_id (s ∷ ss) (x ∷ xs) id = if s.id == id then Some x else found_by_id ss xs id
found_by_id _ _ id = None

abbrev pub changed_by_id : {A : Type 0} → List StreamPlan → List A → ℕ → A → List A
changed_by_id (s ∷ ss) (x ∷ xs) id y = if s.id == id then y ∷ xs else x ∷ changed_by_id ss xs id y
changed_by_id _ xs id y = xs

unfoldable pub find : Plan → LinkState → PortName → ℕ → Option StreamState
find plan st port stream = found_by_id (streams_of plan port.line) (slice_index_or st.ports (port_place port) []) stream

unfoldable pub with_stream_state : Plan → LinkState → PortName → ℕ → StreamState → LinkState
with_stream_state plan st port stream x =
    record st {
      ports = slice_set st.ports (port_place port) (changed_by_id (streams_of plan port.line)
          (slice_index_or st.ports (port_place port) []) stream x);
    }

-- the manager's operation on a stream of a line
unfoldable pub find_op : Plan → LinkState → ℕ → ℕ → Option StreamStage
find_op plan st line stream = found_by_id (streams_of plan line) (slice_index_or st.ops line []) stream

unfoldable pub put_op : Plan → LinkState → ℕ → ℕ → StreamStage → LinkState
put_op plan st line stream o =
    record st {
      ops = slice_set st.ops line
          (changed_by_id (streams_of plan line) (slice_index_or st.ops line []) stream o);
    }

-- a verdict and the state after it
abbrev pub Stepped : Type 0
Stepped = Verdict × LinkState

-- ---- sends

abbrev pub kept_packet : PortName → Packet → LinkPacket
kept_packet port p = record { port = port; bytes = packet_bytes p }

-- what is said beside the ports: T of a TLP on a stream, what the packets of an accepted unit do, what is due of events
-- on interfaces, what the answer to the oldest read that waits at a port comes to, what is shown of a device's memory,
-- and what the first TLP comes to that waits in a direction of a link's hop
pub record BesidePorts : Type 0 where
  pub t : PortName → HeadView → ℕ → Bool → Bool
  pub effects : PortName → UnitName → List Packet → List Effect
  pub answer : InterfaceEvent → Verdict
  pub reply : PortName → Result ReadCompletion Verdict
  pub shows : ℕ → ℕ → ℕ → ℕ → Verdict
  pub forward : ℕ → Direction → Result HopTlp Verdict

-- a TLP is refused on its stream, or sealed as these packets
abbrev pub stepped_answer : Plan → LinkState → Sending → Tlp → StreamState → Option Verdict → List SealedPacket
    → Stepped
stepped_answer plan st s t x (Some verdict) ds = (verdict, st)
stepped_answer plan st s t x None ds =
    let sealed = sealed_all (is_closed plan s.port.line s.stream) (head_bytes (header t)) (body t) ds x.tx in
    let new = with_stream_state plan st s.port s.stream (record x { tx = sealed.1 }) in
    (v.Sealed ds, record new { packets = st.packets ++ map (kept_packet s.port) sealed.0 })

abbrev pub stepped_on_stream : Plan → LinkState → Sending → Tlp → Option StreamState → Stepped
stepped_on_stream plan st s t None = (v.Nothing, st)
stepped_on_stream plan st s t (Some x) =
    let lanes = lanes_of (aggregation_of plan s.port.line s.stream) plan.units_per_key x in
    stepped_answer plan st s t x (first_that_holds (refusals lanes s.class))
    (sealed_with_syncs lanes s (length st.packets + 1))

-- of a TLP on a stream of an end, with this T
abbrev pub stepped_seal : Plan → LinkState → PortName → Tlp → ℕ → Bool → Bool → Stepped
stepped_seal plan st port tlp stream more t =
    let s : Sending =
    record { port = port; stream = stream; class = class_of (header tlp); more = more; trusted = t } in
    stepped_on_stream plan st s tlp (find plan st port stream)

abbrev pub stepped_send : Plan → BesidePorts → LinkState → PortName → Outgoing → Bool → Bool → Stepped
stepped_send plan beside st port (NoTlp f) more trusted = (
  v.Malformed (port_of plan port) (tlp_word f) (place_in f),
  st,
)
stepped_send plan beside st port OnNone more trusted = (v.Plain (port_of plan port), st)
stepped_send plan beside st port (OnStream t stream) more trusted =
    stepped_seal plan st port t stream more (beside.t port (header t) stream trusted)

-- of bytes that are sent at an end
abbrev pub stepped_bytes : Plan → BesidePorts → LinkState → PortName → List ℕ → Bool → Bool → Stepped
stepped_bytes plan beside st end bytes more trusted =
    stepped_send plan beside st end (outgoing_at plan end bytes) more trusted

-- ---- answers to reads that wait

abbrev pub port_at : Side → ℕ → PortName
port_at side line = record { side = side; line = line }

-- the draw that a port seals a sub-stream of a stream under, and the greatest that it opens one under
abbrev pub sealing_draw_at : SubKind → Option StreamState → Option ℕ
sealing_draw_at u o = option_and_then (λ (x : StreamState). sealing_draw (slots_at true u x)) o

abbrev pub receiving_draw_at : SubKind → Option StreamState → Option ℕ
receiving_draw_at u o = option_and_then (λ (x : StreamState). receiving_draw (slots_at false u x)) o

-- on the completion's stream, with its T
abbrev pub stepped_tlp : Plan → LinkState → ReadCompletion → Result Tlp TlpFault → Stepped
stepped_tlp plan st c (Err f) = (v.Malformed (port_of plan c.end) (tlp_word f) (place_in f), st)
stepped_tlp plan st c (Ok tlp) = stepped_seal plan st c.end tlp c.stream false c.trusted

-- under a key of its stream from the floor on
abbrev pub stepped_completion : Plan → LinkState → ReadCompletion → Option ℕ → Stepped
stepped_completion plan st c draw =
    if is_some_below draw c.floor then (v.Interface (iv.RefusedRefreshFirst (unwrap_or draw 0) c.floor), st)
    else stepped_tlp plan st c (read_of c.bytes)

abbrev pub stepped_reply : Plan → LinkState → Result ReadCompletion Verdict → Stepped
stepped_reply plan st (Err verdict) = (verdict, st)
stepped_reply plan st (Ok c) = stepped_completion plan st c (sealing_draw_at Cpl (find plan st c.end c.stream))

-- ---- what waits at switches

-- it is sealed behind the switch as it came, with its T
abbrev pub stepped_forward : Plan → BesidePorts → LinkState → PortName → Result HopTlp Verdict → Stepped
stepped_forward plan beside st port (Err verdict) = (verdict, st)
stepped_forward plan beside st port (Ok x) = stepped_bytes plan beside st port x.bytes false x.t

-- ---- arrivals

abbrev pub verdict_of_taken : BesidePorts → PortName → Packet → PacketOutcome → Verdict
verdict_of_taken beside port p Insecure = v.Insecure port p.prefix.stream
verdict_of_taken beside port p NotKeyed = v.NotKeyed port p.prefix.stream p.prefix.sub
verdict_of_taken beside port p (Failed cause) = v.Fail port p.prefix.stream p.prefix.sub cause
verdict_of_taken beside port p (Held j n) = v.Held port (unit_name p j n)
verdict_of_taken beside port p (Accepted j n unit) = v.Accepted port (unit_name p j n)
    (beside.effects port (unit_name p j n) unit)

abbrev pub stepped_packet : Plan → BesidePorts → LinkState → PortName → Packet → Option StreamState → Stepped
stepped_packet plan beside st port p None = (v.Unknown (port_of plan port) p.prefix.stream, st)
stepped_packet plan beside st port p (Some x) =
    let taken = stream_outcome (aggregation_of plan port.line p.prefix.stream)
    (is_closed plan port.line p.prefix.stream) x p
    in
    (verdict_of_taken beside port p taken, with_stream_state plan st port p.prefix.stream (state_after x p taken))

abbrev pub stepped_cut : Plan → BesidePorts → LinkState → PortName → Result CutValue PacketFault → Stepped
stepped_cut plan beside st port (Err f) = (v.Malformed (port_of plan port) (packet_word f) (packet_place f), st)
stepped_cut plan beside st port (Ok PlainTlp) = (v.Plain (port_of plan port), st)
stepped_cut plan beside st port (Ok (IdePacket p)) = stepped_packet plan beside st port p
    (find plan st port p.prefix.stream)

abbrev pub stepped_arrival : Plan → BesidePorts → LinkState → Option ArrivedBytes → Stepped
stepped_arrival plan beside st None = (v.Nothing, st)
stepped_arrival plan beside st (Some a) =
    if goes_through plan a.port a.bytes then (through_due plan a.port, st)
    else stepped_cut plan beside st a.port (cut_of a.bytes)

-- ---- packets by number

abbrev pub packet_numbered : List LinkPacket → ℕ → Option LinkPacket
packet_numbered xs n = if n == 0 then None else slice_get xs (n - 1)

-- bytes of it arrive at the port of the other end of the line on which it was sealed
abbrev pub brought_to : Plan → LinkPacket → List ℕ → ArrivedBytes
brought_to plan x bytes = arrival_at plan (partner x.port) bytes

-- the whole packet arrives
abbrev pub whole_arrival : Plan → LinkPacket → Option ArrivedBytes
whole_arrival plan x = Some (brought_to plan x x.bytes)

abbrev pub altered_to : Plan → ℕ → ℕ → LinkPacket → Option ArrivedBytes
altered_to plan at mask x =
    if nat_lt at (length x.bytes)
    then Some (brought_to plan x (slice_set x.bytes at (bit_xor (slice_index x.bytes at) mask))) else None

abbrev pub cut_short : Plan → ℕ → LinkPacket → Option ArrivedBytes
cut_short plan len x = if nat_le len (length x.bytes) then Some (brought_to plan x (take len x.bytes)) else None

abbrev pub packet_verdict : ℕ → Option LinkPacket → Verdict
packet_verdict n None = v.Nothing
packet_verdict n (Some x) = v.Packet n x.bytes

-- ---- an operation on a stream of a line touches slots at both ends

abbrev pub touched_found : Plan → LinkState → PortName → ℕ → (SubKind → List Touch) → (SubKind → List Touch)
    → Option StreamState → LinkState
touched_found plan st port stream out into None = st
touched_found plan st port stream out into (Some x) =
    with_stream_state plan st port stream (touched_stream plan port stream out into x)

abbrev pub touched_at : Plan → LinkState → ℕ → ℕ → (Side → SubKind → List Touch) → (Side → SubKind → List Touch) → Side
    → LinkState
touched_at plan st line stream out into side =
    let port : PortName = record { side = side; line = line } in
    touched_found plan st port stream (out side) (into side) (find plan st port stream)

-- the state after it
abbrev pub touched_state : Plan → LinkState → ℕ → ℕ → (Side → SubKind → List Touch) → (Side → SubKind → List Touch)
    → LinkState
touched_state plan st line stream out into =
    touched_at plan (touched_at plan st line stream out into Host) line stream out into Device

-- ---- what operations read of the ports

-- a KEY_PROG of a Live slot is refused if the other slot holds no newer Live key
abbrev pub is_newer_key : ℕ → LaneSlot → Bool
is_newer_key i (Live x) = nat_lt i x.draw
is_newer_key i _ = false

abbrev pub is_last_in : LaneSlot → LaneSlot → Bool
is_last_in (Live x) other = not (is_newer_key x.draw other)
is_last_in _ other = false

abbrev pub slots_refuse : LaneSlots → Bool → Bool
slots_refuse s k = is_last_in (slot_in_set s k) (slot_in_set s (not k))

abbrev pub refuses_at : Bool → SubKind → Bool → Option StreamState → Bool
refuses_at sends u k None = false
refuses_at sends u k (Some x) = slots_refuse (slots_at sends u x) k

abbrev pub is_live_at : Bool → SubKind → Bool → Option StreamState → Bool
is_live_at sends u k None = false
is_live_at sends u k (Some x) = is_live_slot (slot_in_set (slots_at sends u x) k)

abbrev pub ports_of : Plan → LinkState → PortView
ports_of plan st = record {
  refusal = λ p k. refusal_if (refuses_at p.sends p.sub k (find plan st (port_at p.side p.line) p.stream));
  is_live = λ p k. is_live_at p.sends p.sub k (find plan st (port_at p.side p.line) p.stream);
}

abbrev pub status_if_planned : Option StreamState → StreamStatus
status_if_planned None = status.Idle
status_if_planned (Some x) = stream_status x

abbrev pub machine_status : Plan → LinkState → Side → ℕ → ℕ → StreamStatus
machine_status plan st side line stream = status_if_planned (find plan st (port_at side line) stream)

-- ---- operations

abbrev pub place_at_end : ℕ → ℕ → Bool → Side → SubKind → KeyPlace
place_at_end line stream sends side u = record { side = side; line = line; stream = stream; sends = sends; sub = u }

-- what an event of an operation does to the slots of a place
abbrev pub touches_at : PortView → Work → Reach → KeyPlace → List Touch
touches_at ports w r p = taken_touches (λ k. is_some (ports.refusal p k)) (work_touches w (Some r) p)

abbrev pub draws_after : ℕ → Work → ℕ
draws_after next w = if w.begins && makes_draw w.operation then next + 1 else next

abbrev pub work_done : Plan → LinkState → ℕ → ℕ → Work → Option Reach → LinkState
work_done plan st line stream w None = st
work_done plan st line stream w (Some r) =
    let ports = ports_of plan st in
    let touched =
    touched_state plan st line stream (λ side u. touches_at ports w r (place_at_end line stream true side u))
    (λ side u. touches_at ports w r (place_at_end line stream false side u)) in
    record (put_op plan touched line stream (op_after_reach (is_hosted line) w r)) { draws = draws_after st.draws w }

abbrev pub stepped_operation : Plan → LinkState → Operation → ℕ → ℕ → StreamStage → Verdict → Stepped
stepped_operation plan st o line stream q verdict =
    (verdict, work_done plan st line stream (work_of o q st.draws) (reach_of o verdict))

abbrev pub establish_found : Plan → LinkState → ℕ → ℕ → Option Loss → Option StreamStage → Stepped
establish_found plan st line stream lose None = (v.Nothing, st)
establish_found plan st line stream lose (Some q) =
    stepped_operation plan st op.Establish line stream q (establish_on (key_plan plan) q st.draws (ports_of plan st)
    line stream lose)

abbrev pub refresh_found : Plan → LinkState → ℕ → ℕ → Option Loss → Option StreamStage → Stepped
refresh_found plan st line stream lose None = (v.Nothing, st)
refresh_found plan st line stream lose (Some q) =
    stepped_operation plan st op.Refresh line stream q (refresh_on (key_plan plan) q st.draws (ports_of plan st)
    (machine_status plan st Host line stream) line stream lose)

abbrev pub stop_found : Plan → LinkState → ℕ → ℕ → Option Loss → Option StreamStage → Stepped
stop_found plan st line stream lose None = (v.Nothing, st)
stop_found plan st line stream lose (Some q) =
    stepped_operation plan st op.Stop line stream q (stop_on q st.draws (ports_of plan st) line stream lose)

abbrev pub status_found : Plan → LinkState → ℕ → ℕ → Option StreamStage → Stepped
status_found plan st line stream None = (v.Nothing, st)
status_found plan st line stream (Some q) =
    (v.Status line stream (machine_status plan st Host line stream) (machine_status plan st Device line stream), st)

-- ---- a reset

-- the streams of an end begin again
abbrev pub row_cleared : Plan → PortName → List (List StreamState) → List (List StreamState)
row_cleared plan end rows =
    slice_set rows (port_place end) (map (λ (s : StreamPlan). no_stream) (streams_of plan end.line))

-- of a stream between devices one end; of any other line both
abbrev pub rows_cleared : Plan → PortName → List (List StreamState) → List (List StreamState)
rows_cleared plan end rows =
    if is_between_devices end.line then row_cleared plan end rows
    else row_cleared plan (port_at Device end.line) (row_cleared plan (port_at Host end.line) rows)

abbrev pub all_rows_cleared : Plan → List PortName → List (List StreamState) → List (List StreamState)
all_rows_cleared plan [] rows = rows
all_rows_cleared plan (e ∷ es) rows = all_rows_cleared plan es (rows_cleared plan e rows)

-- the manager's operations on the lines of these ends
abbrev pub reset_op : ℕ → StreamStage
reset_op line = if is_between_devices line then Stopping 1 else Idle

abbrev pub all_ops_reset : Plan → List PortName → List (List StreamStage) → List (List StreamStage)
all_ops_reset plan [] rows = rows
all_ops_reset plan (e ∷ es) rows =
    all_ops_reset plan es (slice_set rows e.line (map (λ (s : StreamPlan). reset_op e.line) (streams_of plan e.line)))

-- the state after a reset that clears these ends
abbrev pub reset_state : Plan → LinkState → List PortName → LinkState
reset_state plan st ends =
    record st { ports = all_rows_cleared plan ends st.ports; ops = all_ops_reset plan ends st.ops }

-- the verdict of an event, and the state after it
unfoldable pub step_of : Plan → BesidePorts → LinkState → Event → Stepped
step_of plan beside st (Send port bytes more trusted) =
    if may_send plan port then stepped_bytes plan beside st (sealing_end plan port bytes) bytes more trusted
    else (v.Nothing, st)
step_of plan beside st (Pass n) = stepped_arrival plan beside st
    (option_and_then (whole_arrival plan) (packet_numbered st.packets n))
step_of plan beside st (Alter n at mask) = stepped_arrival plan beside st
    (option_and_then (altered_to plan at mask) (packet_numbered st.packets n))
step_of plan beside st (Cut n len) = stepped_arrival plan beside st
    (option_and_then (cut_short plan len) (packet_numbered st.packets n))
step_of plan beside st (Arrive port bytes) =
    if has_port plan port
    then stepped_arrival plan beside st (Some (arrival_at plan port bytes))
    else (v.Nothing, st)
step_of plan beside st (Dump n) = (packet_verdict n (packet_numbered st.packets n), st)
step_of plan beside st (Establish line stream lose) = establish_found plan st line stream lose
    (find_op plan st line stream)
step_of plan beside st (Refresh line stream lose) =
    if is_link_line line then refresh_found plan st line stream lose (find_op plan st line stream) else (v.Nothing, st)
step_of plan beside st (Stop line stream lose) = stop_found plan st line stream lose (find_op plan st line stream)
step_of plan beside st (Reset link ends) =
    if nat_lt link (length plan.links) then (v.Reset link, reset_state plan st ends) else (v.Nothing, st)
step_of plan beside st (Status line stream) = status_found plan st line stream (find_op plan st line stream)
step_of plan beside st (Interface e) = (beside.answer e, st)
step_of plan beside st (Access (ae.Answer link)) = stepped_reply plan st (beside.reply (host_port link))
step_of plan beside st (Access (ae.Respond link)) = stepped_reply plan st (beside.reply (device_port link))
step_of plan beside st (Access (ae.Mmio interface bar offset len)) = (beside.shows interface bar offset len, st)
step_of plan beside st (Forward link d) = stepped_forward plan beside st (leaving_end link d) (beside.forward link d)
step_of plan beside st Absent = (v.Nothing, st)

-- ---- the beginning

-- a key under which there is nothing yet
abbrev pub new_key : Plan → SubStream → ℕ → LiveKey
new_key plan s j = record { draw = j; key = key_of plan j s; units = 0; packets = [] }

abbrev pub first_ports : List (List StreamPlan) → List (List StreamState)
first_ports [] = []
first_ports (ss ∷ lines) =
    map (λ (s : StreamPlan). no_stream) ss ∷ map (λ (s : StreamPlan). no_stream) ss ∷ first_ports lines

-- the state before the first event
abbrev pub first_state : Plan → LinkState
first_state plan = record {
  ports = first_ports (streams_by_line plan);
  ops = map (map (λ (s : StreamPlan). Idle)) (streams_by_line plan);
  draws = 0;
  packets = [];
}
