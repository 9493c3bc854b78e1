-- The manager at the two ends of a line that is keyed by messages at both: what an exchange and an operation make of
-- one stream, and that no other changes.
use Rattle.std.specs.Prelude.{ℕ, ◌≡◌, ◌<◌, length, slice_set, Some, false, Option}
use Rattle.ide_types.specs.declared.port.Side.TheVariants.{Host, Device}
use Rattle.script_events.specs.declared.event.Loss.{Loss}
use Rattle.key_host.specs.declared.operation.NamedOperation.{NamedOperation}
use Rattle.key_host.specs.declared.operation.StreamOutcome.{StreamOutcome}
use Rattle.key_host.specs.declared.stage.NextExchange.{NextExchange}
use Rattle.key_host.specs.Operations.{op_name}
use Rattle.key_host.specs.Streams.{asked_of_unfinished, has_host, outcome_of}
use Rattle.key_host.specs.Managers.{ManagerView, Named, named_stream, asking_after, pool_begun}
use Rattle.key_host.specs.Walk.{IsAsked}
use Rattle.ide_port.specs.{Found, found_stream, UnitsGrow}
use Rattle.join_keys.specs.Paired.{PairStreams, pair_exchanged, pair_after, PairWalked, pair_walk, pair_event}
use Rattle.join_keys.specs.Joined.{host_of}
use Rattle.link_ends.specs.declared.pair.PairEnds.{PairEnds}
use Rattle.link_ends.specs.Keepers.{HasStream, KeeperView}

-- ---- one stream at both ends

-- the stream of this ID is at this place of the manager, and at both ends of its line
pub record IsAtBoth (m : ManagerView) (l : PairEnds) (place id : ℕ) (near far : Found) : Type 0 where
  pub within : place < length m.streams
  pub near_side : l.near.side ≡ Host
  pub far_side : l.far.side ≡ Device
  pub near_named : l.near.port.name.side ≡ Host
  pub far_named : l.far.port.name.side ≡ Device
  pub near_found : found_stream l.near.port.plans l.near.port.states id ≡ Some near
  pub far_found : found_stream l.far.port.plans l.far.port.states id ≡ Some far

-- the manager and the ends with other parts of one stream
pub record DiffersInPair (m : ManagerView) (l : PairEnds) (place id : ℕ) (e : PairStreams) (m' : ManagerView)
    (l' : PairEnds) : Type 0 where
  pub id_is : e.keeper.id ≡ id
  pub paired : has_host e.keeper ≡ false
  pub streams : m'.streams ≡ slice_set m.streams place e.keeper
  pub near : HasStream l.near.port id e.near l'.near.port
  pub far : HasStream l.far.port id e.far l'.far.port
  pub near_stays : l'.near.side ≡ l.near.side
  pub far_stays : l'.far.side ≡ l.far.side

-- ---- an exchange

pub record IsPairExchanged (m0 : ManagerView) (l0 : PairEnds) (place id : ℕ) (loss : Option Loss) (a : NextExchange)
    (e : PairStreams) (result : StreamOutcome) (m : ManagerView) (l : PairEnds) : Type 0 where
  pub outcome : result ≡ outcome_of false a (pair_exchanged loss 0 a e).judged
  pub stands : DiffersInPair m0 l0 place id (pair_after a (pair_exchanged loss 0 a e) e) m l
  pub asking : m.asking ≡ asking_after place result

-- Whatever stream is asked.
abbrev pub PairExchanges : Option Loss → ManagerView → PairEnds → StreamOutcome → ManagerView → PairEnds → Type 0
PairExchanges loss m l result m' l' =
    (m0 : ManagerView) (l0 : PairEnds) (place id : ℕ) (near far : Found) (e : PairStreams) (a : NextExchange)
    → IsAtBoth m0 l0 place id near far
    → DiffersInPair m0 l0 place id e m l → m.asking ≡ Some place → asked_of_unfinished e.keeper.op ≡ Some a
    → IsAsked false (Some a) → IsPairExchanged m0 l0 place id loss a e result m' l'

-- ---- one exchange after another

pub record IsPairWalked (m0 : ManagerView) (l0 : PairEnds) (place id : ℕ) (walked : PairWalked) (result : StreamOutcome)
    (m : ManagerView) (l : PairEnds) : Type 0 where
  pub outcome : result ≡ walked.outcome
  pub stands : DiffersInPair m0 l0 place id walked.ends m l

abbrev pub PairWalks : ℕ → Option Loss → ManagerView → PairEnds → StreamOutcome → ManagerView → PairEnds → Type 0
PairWalks more loss m l result m' l' =
    (m0 : ManagerView) (l0 : PairEnds) (place id : ℕ) (near far : Found) (e : PairStreams)
    → IsAtBoth m0 l0 place id near far
    → DiffersInPair m0 l0 place id e m l → m.asking ≡ Some place → IsAsked false (asked_of_unfinished e.keeper.op)
    → IsPairWalked m0 l0 place id (pair_walk more loss 0 e) result m' l'

-- ---- an operation

abbrev pub pair_found : Named → Found → Found → PairStreams
pair_found n near far = record { near = near.state; far = far.state; keeper = n.stream }

pub record IsPairOperated (k : KeeperView) (l : PairEnds) (op : NamedOperation) (loss : Option Loss) (n : Named)
    (near far : Found)
    (result : StreamOutcome) (k' : KeeperView) (l' : PairEnds) : Type 0 where
  pub walked : IsPairWalked k.manager l n.place (op_name op).stream
      (pair_event (op_name op).operation (host_of near.state)
      k.pool loss 0 (pair_found n near far)) result k'.manager l'
  pub pool : k'.pool ≡ pool_begun (op_name op).operation (host_of near.state) k.pool n

abbrev pub PairOperates : KeeperView → PairEnds → NamedOperation → Option Loss → StreamOutcome → KeeperView → PairEnds
    → Type 0
PairOperates k l op loss result k' l' =
    (n : Named) (near far : Found) → named_stream k.manager (op_name op).line (op_name op).stream ≡ Some n
    → has_host n.stream ≡ false → IsAtBoth k.manager l n.place (op_name op).stream near far
    → IsAsked false (asked_of_unfinished n.stream.op) → IsPairOperated k l op loss n near far result k' l'

-- ---- units

-- an operation on a stream finishes and accepts no unit
pub record NoMorePairUnits (l l' : PairEnds) : Type 0 where
  pub near : UnitsGrow 0 l.near.port l'.near.port
  pub far : UnitsGrow 0 l.far.port l'.far.port
