-- One stream at a port: what is kept, and what each call makes of it (PCI Express Base 6.0 section 6.33, in this
-- profile).
use Rattle.std.specs.Prelude.{ℕ, Bool, List, []}
use Rattle.ide_types.specs.declared.sub.SubKind.{SubKind}
use Rattle.ide_types.specs.declared.direction.Direction.{Direction}
use Rattle.ide_types.specs.declared.port.Side.{Side}
use Rattle.ide_prefix.specs.Packet.{Packet}
use Rattle.key_slots.specs.{SlotPair, KeyCall}
use Rattle.spec_stream.specs.Sending.{Lanes}
use Rattle.spec_stream.specs.Stream.{StreamState, PacketOutcome, lanes_of, stream_outcome, state_after}
use Rattle.stream_lanes.specs.{opened_if_accepted}
use Rattle.sub_stream.specs.Calls.{sends_in, pair_at, stream_after_call, no_stream}

-- Units of at most `aggregation` packets, and at most `limit` under one key; `delivered` are the packets of the last
-- accepted unit, decrypted, until the next packet or call of key management.
pub record StreamEnd : Type 0 where
  pub side : Side
  pub id : ℕ
  pub aggregation : ℕ
  pub closed : Bool
  pub limit : ℕ
  pub state : StreamState
  pub delivered : List Packet

abbrev pub new_end : Side → ℕ → ℕ → Bool → ℕ → StreamEnd
new_end side id aggregation closed limit =
    record {
      side = side;
      id = id;
      aggregation = aggregation;
      closed = closed;
      limit = limit;
      state = no_stream;
      delivered = [];
    }

-- what the rules of sealing see of it
abbrev pub lanes_in : StreamEnd → Lanes
lanes_in e = lanes_of e.aggregation e.limit e.state

-- ---- arrivals

abbrev pub end_outcome : StreamEnd → Packet → PacketOutcome
end_outcome e p = stream_outcome e.aggregation e.closed e.state p

abbrev pub end_taken : StreamEnd → Packet → StreamEnd
end_taken e p =
    let taken = end_outcome e p in
    record e { state = state_after e.state p taken; delivered = opened_if_accepted e.state p taken }

-- ---- keys

-- the slots of a direction and a sub-stream
abbrev pub pair_in : StreamEnd → Direction → SubKind → SlotPair
pair_in e direction u = pair_at (sends_in e.side direction) u e.state

abbrev pub called_end : StreamEnd → Direction → SubKind → KeyCall → StreamEnd
called_end e direction u call = record e
    { state = stream_after_call (sends_in e.side direction) u call e.state; delivered = [] }

-- without keys, counts and failure
abbrev pub reset_end : StreamEnd → StreamEnd
reset_end e = record e { state = no_stream; delivered = [] }
