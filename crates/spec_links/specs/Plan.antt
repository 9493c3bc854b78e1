-- What there is before the first event, by line, stream and sub-stream. A port is the end of a line.
use Rattle.std.specs.Prelude.{if◌then◌else◌, ◌&&◌, ◌||◌, ◌*◌, ◌+◌, ◌-◌, ◌++◌, ◌/◌, ◌==◌, ◌∷◌, Bool, List, None, Option}
use Rattle.std.specs.Prelude.{Some, [], false, true, is_some, length, map, nat_lt, replicate, take, ℕ}
use Rattle.spec_links.specs.Terms.{slice_index_or, option_map_or, sub_bits, PortName, Device, Host, SubKind}
use Rattle.spec_links.specs.Terms.{Plan, KeyPlan, received_direction, sent_direction}
use Rattle.ide_types.specs.declared.port.Side.{Side}
use Rattle.ide_types.specs.declared.plan.LinkPlan.{LinkPlan}
use Rattle.ide_types.specs.declared.plan.HopPlan.{HopPlan}
use Rattle.ide_types.specs.declared.plan.PeerPlan.{PeerPlan}
use Rattle.ide_types.specs.declared.stream.Selector.TheVariants.{Selective}
use Rattle.ide_types.specs.declared.stream.StreamPlan.{StreamPlan}

-- one sub-stream in one direction of a line: 0 is sealed at its near end, 1 at its far end
pub record SubStream : Type 0 where
  pub line : ℕ
  pub stream : ℕ
  pub direction : ℕ
  pub sub : SubKind

abbrev pub is_same : SubStream → SubStream → Bool
is_same s t =
    (s.line == t.line) && (s.stream == t.stream) && (s.direction == t.direction) && (sub_bits s.sub == sub_bits t.sub)

abbrev pub is_same_port : PortName → PortName → Bool
is_same_port p q = (sent_direction p.side == sent_direction q.side) && (p.line == q.line)

-- what a port seals, and what it receives, in a sub-stream
abbrev pub lane_out : PortName → ℕ → SubKind → SubStream
lane_out port stream u = record { line = port.line; stream = stream; direction = sent_direction port.side; sub = u }

abbrev pub lane_in : PortName → ℕ → SubKind → SubStream
lane_in port stream u = record { line = port.line; stream = stream; direction = received_direction port.side; sub = u }

-- the other end of its line
abbrev pub partner : PortName → PortName
partner p = record { side = other p.side; line = p.line }
  where
    other : Side → Side
    other Host = Device
    other Device = Host

-- ---- the streams of lines

-- the streams of each link, in the plan's order
abbrev pub streams_by_link : Plan → List (List StreamPlan)
streams_by_link plan = map (λ (l : LinkPlan). l.streams) plan.links

-- a stream that is alone on its line takes each TLP that is sent there
abbrev pub lone_stream : ℕ → ℕ → StreamPlan
lone_stream id aggregation = record
    { id = id; aggregation = aggregation; closed = false; selector = Selective None [] true }

abbrev pub hop_streams : Option HopPlan → List StreamPlan
hop_streams None = []
hop_streams (Some o) = lone_stream o.id 1 ∷ []

-- the stream of each link's hop
abbrev pub hop_by_link : Plan → List (List StreamPlan)
hop_by_link plan = map (λ (l : LinkPlan). hop_streams l.hop) plan.links

abbrev pub peer_streams : Plan → List (List StreamPlan)
peer_streams plan = map (λ (p : PeerPlan). lone_stream p.id p.aggregation ∷ []) plan.peers

-- for each of eight links
abbrev pub in_eight : List (List StreamPlan) → List (List StreamPlan)
in_eight rows = take 8 (rows ++ replicate 8 [])

-- by line: of the links, of the hops' segments towards the hosts, of those towards the devices, and of the streams
-- between devices
abbrev pub behind_near : Plan → List (List StreamPlan)
behind_near plan = in_eight (hop_by_link plan) ++ peer_streams plan

abbrev pub behind_links : Plan → List (List StreamPlan)
behind_links plan = in_eight (hop_by_link plan) ++ behind_near plan

unfoldable pub streams_by_line : Plan → List (List StreamPlan)
streams_by_line plan = in_eight (streams_by_link plan) ++ behind_links plan

-- the streams of a line
abbrev pub streams_of : Plan → ℕ → List StreamPlan
streams_of plan line = slice_index_or (streams_by_line plan) line []

abbrev pub with_id : List StreamPlan → ℕ → Option StreamPlan
with_id [] id = None
with_id (s ∷ ss) id = if s.id == id then Some s else with_id ss id

unfoldable pub stream_plan : Plan → ℕ → ℕ → Option StreamPlan
stream_plan plan line stream = with_id (streams_of plan line) stream

-- the link exists
abbrev pub has_link : Plan → ℕ → Bool
has_link plan link = nat_lt link (length plan.links)

-- the line exists
abbrev pub has_line : Plan → ℕ → Bool
has_line plan line = has_link plan line || nat_lt 0 (length (streams_of plan line))

-- the end exists
abbrev pub has_port : Plan → PortName → Bool
has_port plan port = has_line plan port.line

-- the end has the stream
abbrev pub has_stream : Plan → PortName → ℕ → Bool
has_stream plan port stream = is_some (stream_plan plan port.line stream)

-- how many packets a unit may have
abbrev pub aggregation_of : Plan → ℕ → ℕ → ℕ
aggregation_of plan line stream = option_map_or (λ (s : StreamPlan). s.aggregation) (stream_plan plan line stream) 1

-- nothing of a newer key is accepted before all of the older ones
abbrev pub is_closed : Plan → ℕ → ℕ → Bool
is_closed plan line stream = option_map_or (λ (s : StreamPlan). s.closed) (stream_plan plan line stream) false

-- the place in the pool of the key of a draw: key 6j + 3d + u
abbrev pub place_in_pool : ℕ → SubStream → ℕ
place_in_pool draw s = 6 * draw + 3 * s.direction + sub_bits s.sub

unfoldable pub key_of : Plan → ℕ → SubStream → List ℕ
key_of plan draw s = slice_index_or plan.pool (place_in_pool draw s) []

-- what the rules of keys look at: a draw takes six keys of the pool
abbrev pub key_plan : Plan → KeyPlan
key_plan plan = record {
  pool = length plan.pool / 6;
  has_link = has_link plan;
  has_stream = λ line stream. is_some (stream_plan plan line stream);
}
