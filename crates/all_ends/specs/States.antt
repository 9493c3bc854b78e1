-- All lines as their ends are kept, and the state of the machine that they are.
use Rattle.std.specs.Prelude.{ℕ, ◌≡◌, ◌+◌, ◌≤◌, Some, IsSome, List, [], ◌∷◌, ◌++◌, length, map, replicate, take}
use Rattle.std.specs.Prelude.{slice_get, Bool, true, false}
use Rattle.ide_types.specs.declared.port.PortName.{PortName}
use Rattle.ide_types.specs.declared.port.Side.TheVariants.{Host, Device}
use Rattle.ide_types.specs.Lines.{is_hosted}
use Rattle.ide_types.specs.declared.plan.Plan.{Plan}
use Rattle.ide_types.specs.declared.stream.StreamPlan.{StreamPlan}
use Rattle.ide_types.specs.Fits.{FitsPlan}
use Rattle.spec_stream.specs.Stream.{StreamState}
use Rattle.spec_keys.specs.Operations.{StreamStage}
use Rattle.arrival_verdicts.specs.{streams_by_line, streams_of}
use Rattle.machine_ports.specs.Machine.{LinkState, LinkPacket, port_at}
use Rattle.key_host.specs.Streams.{StreamView}
use Rattle.link_ends.specs.{KeysKept, PairKeysKeptIn}
use Rattle.ide_port.specs.{PortEnd, PortUnitsAtMost}
use Rattle.link_ends.specs.declared.pair.PairEnds.{PairEnds}
use Rattle.link_ends.specs.declared.ends.LinkEnds.{LinkEnds}
use Rattle.link_ends.specs.Keepers.{KeeperView}
use Rattle.all_ends.specs.Ends.{EndsView, port_on}

-- ---- what the machine sees

-- of each link the states of its host's port, and then of its device's
abbrev pub ports_in : List LinkEnds → List (List StreamState)
ports_in [] = []
ports_in (l ∷ ls) = l.host.states ∷ l.device.port.states ∷ ports_in ls

-- of each line that is keyed by messages those of its near end, and then of its far end
abbrev pub pair_ports : List PairEnds → List (List StreamState)
pair_ports [] = []
pair_ports (l ∷ ls) = l.near.port.states ∷ l.far.port.states ∷ pair_ports ls

-- for both ends of each of eight links
abbrev pub in_sixteen : List (List StreamState) → List (List StreamState)
in_sixteen rows = take 16 (rows ++ replicate 16 [])

-- of each line the states of its near end, and then of its far end
abbrev pub rows_of : EndsView → List (List StreamState)
rows_of v = in_sixteen (ports_in v.links) ++ ports_in v.near ++ pair_ports v.pairs

-- The manager keeps the streams of all lines in one list, line by line.
abbrev pub line_ops : List StreamPlan → List StreamView → List StreamStage
line_ops [] vs = []
line_ops (s ∷ ss) [] = []
line_ops (s ∷ ss) (v ∷ vs) = v.op ∷ line_ops ss vs

abbrev pub views_after : List StreamPlan → List StreamView → List StreamView
views_after [] vs = vs
views_after (s ∷ ss) [] = []
views_after (s ∷ ss) (v ∷ vs) = views_after ss vs

-- of each line the operations on its streams
abbrev pub ops_by_line : List (List StreamPlan) → List StreamView → List (List StreamStage)
ops_by_line [] vs = []
ops_by_line (ss ∷ lines) vs = line_ops ss vs ∷ ops_by_line lines (views_after ss vs)

abbrev pub state_of : Plan → EndsView → KeeperView → List LinkPacket → LinkState
state_of plan v k packets = record {
  ports = rows_of v;
  ops = ops_by_line (streams_by_line plan) k.manager.streams;
  draws = k.pool.draws;
  packets = packets;
}

-- ---- what always holds

-- so many units were finished and accepted at each end at the most
abbrev pub EndsUnitsAtMost : ℕ → EndsView → Type 0
EndsUnitsAtMost most v = (end : PortName) (e : PortEnd) → port_on v end ≡ Some e → PortUnitsAtMost most e

-- so many events came, each of which finished and accepted one unit of a sub-stream at the most; each packet was sealed
-- at one of the ends
pub record IsBounded (v : EndsView) (packets : List LinkPacket) (steps : ℕ) : Type 0 where
  pub few : length v.links ≤ 8
  pub units : EndsUnitsAtMost steps v
  pub sealed_here : (i : ℕ) (p : LinkPacket) → slice_get packets i ≡ Some p → IsSome (port_on v p.port)

-- what stands at an end of the plan
pub record IsPort (plan : Plan) (end : PortName) (e : PortEnd) : Type 0 where
  pub name : e.name ≡ end
  pub plans : e.plans ≡ streams_of plan end.line
  pub limit : e.limit ≡ plan.units_per_key

-- the ends of a line that is keyed at a host
pub record IsLink (plan : Plan) (line : ℕ) (l : LinkEnds) : Type 0 where
  pub host : IsPort plan (port_at Host line) l.host
  pub device : IsPort plan (port_at Device line) l.device.port
  pub requester : l.device.requester ≤ 65535

-- of one that is keyed by messages at both
pub record IsPair (plan : Plan) (line : ℕ) (l : PairEnds) : Type 0 where
  pub near_side : l.near.side ≡ Host
  pub far_side : l.far.side ≡ Device
  pub near : IsPort plan (port_at Host line) l.near.port
  pub far : IsPort plan (port_at Device line) l.far.port

abbrev pub name_of : StreamView → ℕ × ℕ
name_of v = (v.line, v.id)

abbrev pub names_of : ℕ → List StreamPlan → List (ℕ × ℕ)
names_of line ss = map (λ (s : StreamPlan). (line, s.id)) ss

-- the streams of the lines from this number on
abbrev pub names_from_line : ℕ → List (List StreamPlan) → List (ℕ × ℕ)
names_from_line line [] = []
names_from_line line (ss ∷ lines) = names_of line ss ++ names_from_line (line + 1) lines

-- an unfinished operation is at one of its exchanges, and has the keys that it has yet to give
abbrev pub KeptBy : (hosted : Bool) → Plan → StreamView → Type 0
KeptBy true plan v = KeysKept plan v
KeptBy false plan v = PairKeysKeptIn plan v.op v.keys

abbrev pub StreamKept : Plan → StreamView → Type 0
StreamKept plan v = KeptBy (is_hosted v.line) plan v

-- the ends of the plan's lines, its streams with the keys of unfinished operations, and its pool
pub record AreLinks (plan : Plan) (v : EndsView) (k : KeeperView) : Type 0 where
  pub fits : FitsPlan plan
  pub many : length v.links ≡ length plan.links
  pub near_many : length v.near ≡ 8
  pub pairs_many : length v.pairs ≡ 8 + length plan.peers
  pub peers_are : v.peers ≡ plan.peers
  pub each_link : (i : ℕ) (l : LinkEnds) → slice_get v.links i ≡ Some l → IsLink plan i l
  pub each_near : (i : ℕ) (l : LinkEnds) → slice_get v.near i ≡ Some l → IsLink plan (8 + i) l
  pub each_pair : (i : ℕ) (l : PairEnds) → slice_get v.pairs i ≡ Some l → IsPair plan (16 + i) l
  pub names : map name_of k.manager.streams ≡ names_from_line 0 (streams_by_line plan)
  pub kept : (i : ℕ) (s : StreamView) → slice_get k.manager.streams i ≡ Some s → StreamKept plan s
  pub keys : k.pool.keys ≡ plan.pool
