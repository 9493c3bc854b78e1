-- The state stands for a history: each part that is kept is what the history says.
use Rattle.std.specs.Prelude.{ℕ, ◌≡◌, Bool, true, false, List, [], ◌∷◌, length, map, Option, Some, None, is_some}
use Rattle.std.specs.Prelude.{if◌then◌else◌}
use Rattle.ide_types.specs.declared.port.PortName.{PortName}
use Rattle.script_events.specs.declared.event.Event.{Event}
use Rattle.script_events.specs.declared.event.Event.TheVariants as event
use Rattle.event_verdicts.specs.declared.verdict.SealedPacket.{SealedPacket}
use Rattle.ide_prefix.specs.Packet.{Packet}
use Rattle.ide_types.specs.declared.plan.Plan.{Plan}
use Rattle.spec_links.specs.Plan.{SubStream, lane_out, lane_in, has_stream, stream_plan, key_of}
use Rattle.spec_links.specs.Units.{units, open_unit}
use Rattle.spec_keys.specs.History.{History, base, op_of, draws}
use Rattle.spec_keys.specs.Keys.{Keyed, Off, Loaded, On, Keys}
use Rattle.spec_links.specs.History.{port_keys, SealedList, sealed_packets, sub_stream_packets, pending_packets}
use Rattle.spec_links.specs.History.{units_got, got_since, has_failed, has_live_out, has_live_in, posted_count, waits}
use Rattle.spec_links.specs.History.{total_in, units_since}
use Rattle.spec_links.specs.Due.{due, effects_of}
unfoldable use Rattle.spec_links.specs.Due.{t_sealed}
use Rattle.spec_links.specs.Guarded.{mmio_due}
use Rattle.spec_links.specs.Memory.{waiting_reads, hop_waiting, policy_at}
use Rattle.spec_links.specs.Sent.{completion_at}
use Rattle.script_events.specs.declared.event.AccessEvent.TheVariants as ae
use Rattle.machine_ports.specs.Replies.{port_completion}
use Rattle.machine_ports.specs.Forwards.{forward_of}
use Rattle.spec_links.specs.Cause.{CauseLaw}
use Rattle.spec_links.specs.KeyFacts.{KeyFacts}
use Rattle.machine_ports.specs.Stream.{LaneSlot, Empty, Programmed, Armed, Live, LiveKey, LaneSlots, TxSub, RxSub}
use Rattle.machine_ports.specs.Stream.{StreamState, each_sub, posted_sum}
use Rattle.spec_keys.specs.Operations.{StreamStage}
use Rattle.machine_ports.specs.Machine.{BesidePorts, LinkState, find, find_op, step_of, kept_packet, first_state}

-- ---- senders

-- the units and the open unit of what was sealed under a draw
abbrev pub sealing_key : Plan → SealedList → SubStream → ℕ → LiveKey
sealing_key plan xs s j =
    record {
      draw = j;
      key = key_of plan j s;
      units = length (units (sub_stream_packets xs s j));
      packets = open_unit (sub_stream_packets xs s j);
    }

-- the slot of a set, beside what the other set holds
abbrev pub tx_slot : Plan → SealedList → SubStream → Bool → Keyed → Keyed → LaneSlot
tx_slot plan xs s k Off other = Empty
tx_slot plan xs s k (Loaded j) other = Programmed j (key_of plan j s)
tx_slot plan xs s k (On j) other = if waits k j other then Armed j (key_of plan j s) else Live (sealing_key plan xs s j)

abbrev pub tx_slots : Plan → SealedList → SubStream → Keys → LaneSlots
tx_slots plan xs s keys =
    record {
      first = tx_slot plan xs s false keys.first keys.second;
      second = tx_slot plan xs s true keys.second keys.first;
    }

-- while none of a port's three sub-streams has a Live key, counts and sums are 0
abbrev pub tx_state_due : Plan → History → PortName → SubStream → TxSub
tx_state_due plan h port s = record {
  slots = tx_slots plan (sealed_packets plan h) s (port_keys h port s);
  posted = if has_live_out h port s.stream then posted_count plan h s else 0;
  total = if has_live_out h port s.stream then total_in (sealed_packets plan h) s (base h s.line s.stream) else 0;
}

-- ---- receivers

-- the units that were got under a draw, and what is held for the next; nothing if the stream failed
abbrev pub receiving_key : Plan → History → PortName → SubStream → ℕ → LiveKey
receiving_key plan h port s j =
    record {
      draw = j;
      key = key_of plan j s;
      units = units_got h s j;
      packets = if has_failed h port s.stream then []
          else pending_packets plan h s j;
    }

abbrev pub rx_slot : Plan → History → PortName → SubStream → Keyed → LaneSlot
rx_slot plan h port s Off = Empty
rx_slot plan h port s (Loaded j) = Programmed j (key_of plan j s)
rx_slot plan h port s (On j) = Live (receiving_key plan h port s j)

abbrev pub rx_slots : Plan → History → PortName → SubStream → Keys → LaneSlots
rx_slots plan h port s keys =
    record { first = rx_slot plan h port s keys.first; second = rx_slot plan h port s keys.second }

abbrev pub got_in : Plan → History → SubStream → List Packet
got_in plan h s = got_since plan h s (base h s.line s.stream)

abbrev pub rx_state_due : Plan → History → PortName → SubStream → RxSub
rx_state_due plan h port s = record {
  slots = rx_slots plan h port s (port_keys h port s);
  sum = if has_live_in h port s.stream then posted_sum (got_in plan h s) else 0;
  got = if has_live_in h port s.stream then length (got_in plan h s) else 0;
  total = if has_live_in h port s.stream then units_since h s (base h s.line s.stream) else 0;
}

-- ---- a stream at a port

unfoldable pub stream_state_due : Plan → History → PortName → ℕ → StreamState
stream_state_due plan h port stream = record {
  tx = each_sub (λ u. tx_state_due plan h port (lane_out port stream u));
  rx = each_sub (λ u. rx_state_due plan h port (lane_in port stream u));
  failed = has_failed h port stream;
}

abbrev pub state_due_if_planned : Plan → History → PortName → ℕ → Option StreamState
state_due_if_planned plan h port stream = if has_stream plan port stream then Some (stream_state_due plan h port stream)
    else None

-- the ports and the packets stand for a history
pub record StreamsAndPacketsStand (plan : Plan) (st : LinkState) (h : History) : Type 0 where
  pub cause : CauseLaw plan h
  pub streams : (port : PortName) (stream : ℕ) → find plan st port stream ≡ state_due_if_planned plan h port stream
  pub packets : st.packets ≡ map (λ (x : SealedPacket × Packet). kept_packet x.0.port x.1) (sealed_packets plan h)

abbrev pub op_at : Plan → History → ℕ → ℕ → Option StreamStage
op_at plan h line stream = if is_some (stream_plan plan line stream) then Some (op_of h line stream) else None

pub record PortsStandFor (plan : Plan) (st : LinkState) (h : History) : Type 0 where
  pub ports_stand : StreamsAndPacketsStand plan st h
  pub ops_is : (line stream : ℕ) → find_op plan st line stream ≡ op_at plan h line stream
  pub draws_is : st.draws ≡ draws h

-- what the history says beside the ports
abbrev pub beside_at : Plan → History → BesidePorts
beside_at plan h = record {
  t = t_sealed plan h;
  effects = effects_of plan h;
  answer = λ e. due plan h (event.Interface e);
  reply = λ port. port_completion plan (policy_at plan h)
      (completion_at plan (sealed_packets plan h) h port) port (waiting_reads plan h port);
  shows = mmio_due plan h;
  forward = λ link d. forward_of plan link (hop_waiting plan h link d);
}

-- A step gives the verdict that is due, and its state stands for the history with it.
abbrev pub StepStands : Type 0
StepStands = (plan : Plan) (st : LinkState) (h : History) (e : Event) → PortsStandFor plan st h
    → ((step_of plan (beside_at plan h) st e).0 ≡ due plan h e)
    × PortsStandFor plan (step_of plan (beside_at plan h) st e).1 ((e, (step_of plan (beside_at plan h) st e).0) ∷ h)

-- The first state stands for the empty history.
abbrev pub FirstStands : Type 0
FirstStands = (plan : Plan) → PortsStandFor plan (first_state plan) []

-- it is a send, an answer to a read of a host's or a device's memory or a forward, brings bytes, or shows a packet
abbrev pub is_of_packets : Event → Bool
is_of_packets (event.Send port bytes more trusted) = true
is_of_packets (event.Access (ae.Answer link)) = true
is_of_packets (event.Access (ae.Respond link)) = true
is_of_packets (event.Forward link d) = true
is_of_packets (event.Pass n) = true
is_of_packets (event.Alter n at mask) = true
is_of_packets (event.Cut n len) = true
is_of_packets (event.Arrive port bytes) = true
is_of_packets (event.Dump n) = true
is_of_packets _ = false

-- A step at such an event gives the verdict that is due, and its ports and packets stand for the history with it.
abbrev pub PacketsStand : Type 0
PacketsStand =
    (plan : Plan) → KeyFacts plan → (st : LinkState) (h : History) (e : Event) → is_of_packets e ≡ true
    → StreamsAndPacketsStand plan st h → ((step_of plan (beside_at plan h) st e).0 ≡ due plan h e)
    × StreamsAndPacketsStand plan (step_of plan (beside_at plan h) st e).1
    ((e, (step_of plan (beside_at plan h) st e).0) ∷ h)
