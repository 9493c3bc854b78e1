-- The streams of a port as the code keeps them, beside their plans.
use Rattle.std.specs.Prelude.{◌≡◌, ℕ, ◌<◌, nat_lt, Bool, true, false, ◌||◌, List, [], ◌∷◌, map, length}
use Rattle.std.specs.Prelude.{slice_get, Option, Some, None, if◌then◌else◌}
use Rattle.std.specs.Option.{option_map}
use Rattle.ide_types.specs.declared.port.Side.{Side}
use Rattle.ide_types.specs.declared.sub.SubKind.{SubKind}
use Rattle.ide_types.specs.declared.stream.StreamPlan.{StreamPlan}
use Rattle.tlp_layout.specs.Choice.{plan_place}
use Rattle.ide_prefix.specs.Packet.{Packet}
use Rattle.ide_prefix.specs.{sub_from}
use Rattle.spec_stream.specs.Stream.{LaneSlot, Armed, StreamState, at_sub}
use Rattle.sub_stream.specs.declared.answer.Taken.{Taken}
use Rattle.sub_stream.specs.declared.answer.Taken.TheVariants as taken
use Rattle.event_verdicts.specs.declared.verdict.UnitName.{UnitName}
use Rattle.ide_port.specs.StreamEnds.{StreamEnd, new_end}
use Rattle.ide_port.specs.declared.answer.Arrival.{Arrival}
use Rattle.ide_port.specs.declared.answer.Arrival.TheVariants.{Insecure, NotKeyed, Fail, Held, Accepted}

-- ---- streams and plans, one to one

abbrev pub is_waiting : LaneSlot → Bool
is_waiting (Armed draw key) = true
is_waiting slot = false

-- a receiver's key never waits for the end of a unit
abbrev pub NoneWaits : StreamState → Type 0
NoneWaits st = (u : SubKind) → (is_waiting (at_sub st.rx u).slots.first || is_waiting (at_sub st.rx u).slots.second)
    ≡ false

-- the stream of a plan at a port of this side, with what this one keeps
abbrev pub stream_of : Side → ℕ → StreamPlan → StreamEnd → StreamEnd
stream_of side limit s x = record {
  side = side;
  id = s.id;
  aggregation = s.aggregation;
  closed = s.closed;
  limit = limit;
  state = x.state;
  delivered = x.delivered;
}

pub record IsStreamOfPlan (side : Side) (limit : ℕ) (s : StreamPlan) (x : StreamEnd) : Type 0 where
  pub plan : x ≡ stream_of side limit s x
  pub receivers : NoneWaits x.state

abbrev pub AreStreamsOfPlans : Side → ℕ → List StreamPlan → List StreamEnd → Type 0
AreStreamsOfPlans side limit [] [] = Unit {0}
AreStreamsOfPlans side limit (s ∷ ss) (x ∷ xs) = IsStreamOfPlan side limit s x × AreStreamsOfPlans side limit ss xs
AreStreamsOfPlans side limit ss xs = ⊥

abbrev pub new_stream_ends : Side → ℕ → List StreamPlan → List StreamEnd
new_stream_ends side limit plans = map (λ (s : StreamPlan). new_end side s.id s.aggregation s.closed limit) plans

-- ---- what is lent

abbrev pub packets_lent : Option StreamEnd → List Packet
packets_lent None = []
packets_lent (Some x) = x.delivered

-- by the stream at this place
abbrev pub delivered_at : List StreamEnd → Option ℕ → List Packet
delivered_at xs None = []
delivered_at xs (Some place) = packets_lent (slice_get xs place)

-- the streams are those of the plans, and one of them lends
pub record IsKept (side : Side) (limit : ℕ) (plans : List StreamPlan) (streams : List StreamEnd) (lent : Option ℕ)
    : Type 0 where
  pub each : AreStreamsOfPlans side limit plans streams
  pub lends : (place : ℕ) → lent ≡ Some place → place < length streams

-- ---- one stream

-- the place of the first stream of an ID, and the sub-stream of a number, if there are such
abbrev pub place_and_sub : List StreamPlan → ℕ → ℕ → Option (ℕ × SubKind)
place_and_sub plans id sub = if nat_lt sub 3 then option_map (λ place. (place, sub_from sub)) (plan_place plans id)
    else None

-- ---- answers

abbrev pub unit_said : ℕ → SubKind → ℕ → ℕ → UnitName
unit_said stream sub draw unit = record { stream = stream; sub = sub; draw = draw; unit = unit }

-- what a stream says of a packet of a sub-stream
abbrev pub arrival_said : ℕ → SubKind → Option Taken → Arrival
arrival_said stream sub None = Insecure stream
arrival_said stream sub (Some taken.NotKeyed) = NotKeyed stream sub
arrival_said stream sub (Some (taken.Fail cause)) = Fail stream sub cause
arrival_said stream sub (Some (taken.Held draw unit)) = Held (unit_said stream sub draw unit)
arrival_said stream sub (Some (taken.Accepted draw unit count)) = Accepted (unit_said stream sub draw unit) count
