-- What becomes of bytes that arrive at a port.
use Rattle.std.specs.Prelude.{[], length, Option, Some, None, Result, Ok, Err}
use Rattle.ide_prefix.specs.declared.fault.PacketFault.{PacketFault}
use Rattle.ide_prefix.specs.Packet.{Packet}
use Rattle.ide_prefix.specs.Reading.{CutValue, PlainTlp, IdePacket}
use Rattle.spec_stream.specs.Stream.{PacketOutcome, Insecure as IsInsecure, NotKeyed as IsKeyless, Failed}
use Rattle.spec_stream.specs.Stream.{Held as IsHeld, Accepted as IsAccepted, stream_outcome, state_after, unit_name}
use Rattle.stream_lanes.specs.{opened_if_accepted}
use Rattle.ide_port.specs.declared.answer.Arrival.{Arrival}
use Rattle.ide_port.specs.declared.answer.Arrival.TheVariants.{Malformed, Plain, Unknown, Insecure, NotKeyed, Fail}
use Rattle.ide_port.specs.declared.answer.Arrival.TheVariants.{Held, Accepted}
use Rattle.ide_port.specs.Ends.{PortEnd, Found, found_stream, changed_states}

-- the answer, and the port after it
pub record TakeStep : Type 0 where
  pub answer : Arrival
  pub port : PortEnd

-- nothing of a stream changes
abbrev pub untaken_step : PortEnd → Arrival → TakeStep
untaken_step e answer = record { answer = answer; port = record e { delivered = [] } }

-- of an accepted unit, how many packets it has
abbrev pub port_arrival : Packet → PacketOutcome → Arrival
port_arrival p IsInsecure = Insecure p.prefix.stream
port_arrival p IsKeyless = NotKeyed p.prefix.stream p.prefix.sub
port_arrival p (Failed cause) = Fail p.prefix.stream p.prefix.sub cause
port_arrival p (IsHeld draw unit) = Held (unit_name p draw unit)
port_arrival p (IsAccepted draw unit packets) = Accepted (unit_name p draw unit) (length packets)

-- a packet of a stream, if the port has it
abbrev pub packet_step : PortEnd → Packet → Option Found → TakeStep
packet_step e p None = untaken_step e (Unknown p.prefix.stream)
packet_step e p (Some f) =
    let taken = stream_outcome f.plan.aggregation f.plan.closed f.state p in
    record {
      answer = port_arrival p taken;
      port =
          record e {
            states = changed_states e.plans e.states f.plan.id (state_after f.state p taken);
            delivered = opened_if_accepted f.state p taken;
          };
    }

-- an arrival whose bytes are this
abbrev pub take_step : PortEnd → Result CutValue PacketFault → TakeStep
take_step e (Err fault) = untaken_step e (Malformed fault)
take_step e (Ok PlainTlp) = untaken_step e Plain
take_step e (Ok (IdePacket p)) = packet_step e p (found_stream e.plans e.states p.prefix.stream)
