-- A port at an end of a line with all its streams: what is kept (PCI Express Base 6.0 section 6.33, in this profile).
use Rattle.std.specs.Prelude.{ℕ, ◌==◌, List, [], ◌∷◌, map, Option, Some, None, if◌then◌else◌}
use Rattle.ide_types.specs.declared.port.PortName.{PortName}
use Rattle.ide_types.specs.declared.stream.StreamPlan.{StreamPlan}
use Rattle.ide_prefix.specs.Packet.{Packet}
use Rattle.spec_stream.specs.Stream.{StreamState}
use Rattle.sub_stream.specs.Calls.{no_stream}
use Rattle.ide_port.specs.StreamEnds.{StreamEnd}

-- The streams are those of its line, in order, with their states; a key seals at most `limit` units. `delivered` are
-- the packets of the last accepted unit, decrypted, until the next packet or call of key management.
pub record PortEnd : Type 0 where
  pub name : PortName
  pub plans : List StreamPlan
  pub limit : ℕ
  pub states : List StreamState
  pub delivered : List Packet

abbrev pub new_port : PortName → List StreamPlan → ℕ → PortEnd
new_port name plans limit = record {
  name = name;
  plans = plans;
  limit = limit;
  states = map (λ (s : StreamPlan). no_stream) plans;
  delivered = [];
}

-- ---- one stream

-- a stream of the port, with its state
pub record Found : Type 0 where
  pub plan : StreamPlan
  pub state : StreamState

abbrev pub found_stream : List StreamPlan → List StreamState → ℕ → Option Found
found_stream (s ∷ ss) (x ∷ xs) id = if s.id == id then Some (record { plan = s; state = x }) else found_stream ss xs id
found_stream ss xs id = None

-- with another state of the stream
abbrev pub changed_states : List StreamPlan → List StreamState → ℕ → StreamState → List StreamState
changed_states (s ∷ ss) (x ∷ xs) id y = if s.id == id then y ∷ xs else x ∷ changed_states ss xs id y
changed_states ss xs id y = xs

-- as a stream at a port
abbrev pub stream_end_at : PortEnd → Found → StreamEnd
stream_end_at e f = record {
  side = e.name.side;
  id = f.plan.id;
  aggregation = f.plan.aggregation;
  closed = f.plan.closed;
  limit = e.limit;
  state = f.state;
  delivered = [];
}

-- ---- a reset: no stream has keys, counts or a failure

abbrev pub reset_port : PortEnd → PortEnd
reset_port e = record e { states = map (λ (s : StreamPlan). no_stream) e.plans; delivered = [] }
