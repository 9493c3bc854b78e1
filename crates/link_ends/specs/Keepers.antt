-- The manager at the two ends of a link: what an exchange and an operation make of one stream, and that no other
-- changes.
use Rattle.std.specs.Prelude.{ℕ, ◌≡◌, ◌<◌, length, slice_set, Option, Some, true}
use Rattle.ide_types.specs.declared.port.Side.TheVariants.{Host, Device}
use Rattle.script_events.specs.declared.event.Loss.{Loss}
use Rattle.key_slots.specs.{Pool}
use Rattle.spec_stream.specs.Stream.{StreamState}
use Rattle.key_host.specs.declared.operation.NamedOperation.{NamedOperation}
use Rattle.key_host.specs.declared.operation.StreamOutcome.{StreamOutcome}
use Rattle.key_host.specs.declared.stage.NextExchange.{NextExchange}
use Rattle.key_host.specs.Operations.{op_name}
use Rattle.key_host.specs.Streams.{asked_of_unfinished, has_host, outcome_of}
use Rattle.key_host.specs.Managers.{ManagerView, Named, named_stream, asking_after, pool_begun}
use Rattle.key_host.specs.Walk.{IsAsked}
use Rattle.ide_port.specs.{PortEnd, Found, found_stream, changed_states, UnitsGrow}
use Rattle.join_keys.specs.Walks.{StreamEnds, exchange_outcome, ends_after_exchange, WalkedEnds, walk_on, event_walk}
use Rattle.join_keys.specs.Joined.{host_of}
use Rattle.link_ends.specs.declared.ends.LinkEnds.{LinkEnds}

-- the manager of all lines, and the keys that it draws
pub record KeeperView : Type 0 where
  pub manager : ManagerView
  pub pool : Pool

-- ---- one stream at both ends

-- a port with another state of one stream; what it lends is not said
abbrev pub HasStream : PortEnd → ℕ → StreamState → PortEnd → Type 0
HasStream old id x new = new ≡ record old
    { states = changed_states old.plans old.states id x; delivered = new.delivered }

-- the stream of this ID is at this place of the manager, and at both ends of its line
pub record IsAtBothEnds (m : ManagerView) (l : LinkEnds) (place id : ℕ) (host device : Found) : Type 0 where
  pub within : place < length m.streams
  pub host_side : l.host.name.side ≡ Host
  pub device_side : l.device.port.name.side ≡ Device
  pub host_found : found_stream l.host.plans l.host.states id ≡ Some host
  pub device_found : found_stream l.device.port.plans l.device.port.states id ≡ Some device

-- the manager and the ends with other parts of one stream
pub record DiffersInStream (m : ManagerView) (l : LinkEnds) (place id : ℕ) (e : StreamEnds) (m' : ManagerView)
    (l' : LinkEnds) : Type 0 where
  pub id_is : e.keeper.id ≡ id
  pub hosted : has_host e.keeper ≡ true
  pub streams : m'.streams ≡ slice_set m.streams place e.keeper
  pub host : HasStream l.host id e.host l'.host
  pub device : HasStream l.device.port id e.device l'.device.port
  pub requester : l'.device.requester ≡ l.device.requester

-- ---- an exchange

pub record IsExchanged (m0 : ManagerView) (l0 : LinkEnds) (place id : ℕ) (loss : Option Loss) (a : NextExchange)
    (e : StreamEnds) (result : StreamOutcome) (m : ManagerView) (l : LinkEnds) : Type 0 where
  pub outcome : result ≡ outcome_of true a (exchange_outcome loss l0.device.requester a e).judged
  pub stands : DiffersInStream m0 l0 place id (ends_after_exchange a (exchange_outcome loss l0.device.requester a e) e)
      m l
  pub asking : m.asking ≡ asking_after place result

-- Whatever stream is asked.
abbrev pub Exchanges : Option Loss → ManagerView → LinkEnds → StreamOutcome → ManagerView → LinkEnds → Type 0
Exchanges loss m l result m' l' =
    (m0 : ManagerView) (l0 : LinkEnds) (place id : ℕ) (host device : Found) (e : StreamEnds) (a : NextExchange)
    → IsAtBothEnds m0 l0 place id host device
    → DiffersInStream m0 l0 place id e m l → m.asking ≡ Some place → asked_of_unfinished e.keeper.op ≡ Some a
    → IsAsked true (Some a) → IsExchanged m0 l0 place id loss a e result m' l'

-- ---- one exchange after another

pub record IsWalked (m0 : ManagerView) (l0 : LinkEnds) (place id : ℕ) (walked : WalkedEnds) (result : StreamOutcome)
    (m : ManagerView) (l : LinkEnds) : Type 0 where
  pub outcome : result ≡ walked.outcome
  pub stands : DiffersInStream m0 l0 place id walked.ends m l

abbrev pub Walks : ℕ → Option Loss → ManagerView → LinkEnds → StreamOutcome → ManagerView → LinkEnds → Type 0
Walks more loss m l result m' l' =
    (m0 : ManagerView) (l0 : LinkEnds) (place id : ℕ) (host device : Found) (e : StreamEnds)
    → IsAtBothEnds m0 l0 place id host device
    → DiffersInStream m0 l0 place id e m l → m.asking ≡ Some place → IsAsked true (asked_of_unfinished e.keeper.op)
    → IsWalked m0 l0 place id (walk_on more loss l0.device.requester e) result m' l'

-- ---- an operation

abbrev pub ends_found : Named → Found → Found → StreamEnds
ends_found n host device = record { host = host.state; device = device.state; keeper = n.stream }

pub record IsOperated (k : KeeperView) (l : LinkEnds) (op : NamedOperation) (loss : Option Loss) (n : Named)
    (host device : Found)
    (result : StreamOutcome) (k' : KeeperView) (l' : LinkEnds) : Type 0 where
  pub walked : IsWalked k.manager l n.place (op_name op).stream (event_walk (op_name op).operation (host_of host.state)
      k.pool loss l.device.requester (ends_found n host device)) result k'.manager l'
  pub pool : k'.pool ≡ pool_begun (op_name op).operation (host_of host.state) k.pool n

abbrev pub Operates : KeeperView → LinkEnds → NamedOperation → Option Loss → StreamOutcome → KeeperView → LinkEnds
    → Type 0
Operates k l op loss result k' l' =
    (n : Named) (host device : Found) → named_stream k.manager (op_name op).line (op_name op).stream ≡ Some n
    → has_host n.stream ≡ true → IsAtBothEnds k.manager l n.place (op_name op).stream host device
    → IsAsked true (asked_of_unfinished n.stream.op) → IsOperated k l op loss n host device result k' l'

-- ---- units

-- an operation on a stream finishes and accepts no unit, and reaches no interface
pub record KeysAlone (l l' : LinkEnds) : Type 0 where
  pub host : UnitsGrow 0 l.host l'.host
  pub device : UnitsGrow 0 l.device.port l'.device.port
  pub interfaces : l'.device.interfaces ≡ l.device.interfaces

-- as before, at its end
pub record NoMoreUnits (l l' : LinkEnds) : Type 0 where
  pub host : UnitsGrow 0 l.host l'.host
  pub device : UnitsGrow 0 l.device.port l'.device.port
