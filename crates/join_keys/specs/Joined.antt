-- That an event of an operation gives the verdict and the state of the machine of ports.
use Rattle.std.specs.Prelude.{ℕ, ◌≡◌, ◌+◌, ◌≤◌, ◌<◌, true, false, Option, Some, None}
use Rattle.ide_types.specs.declared.sub.SubKind.{SubKind}
use Rattle.ide_types.specs.declared.port.Side.{Side}
use Rattle.ide_types.specs.declared.port.Side.TheVariants.{Host, Device}
use Rattle.ide_types.specs.declared.plan.Plan.{Plan}
use Rattle.ide_types.specs.Fits.{FitsPlan}
use Rattle.script_events.specs.declared.event.Loss.{Loss}
use Rattle.event_verdicts.specs.declared.verdict.Operation.{Operation}
use Rattle.event_verdicts.specs.declared.verdict.Verdict.{Verdict}
use Rattle.key_slots.specs.{Pool, live_set}
use Rattle.spec_keys.specs.Operations.{StreamStage, Establishing, Refreshing, Stopping, Work, Reach, work_of, reach_of}
use Rattle.spec_keys.specs.History.{History}
use Rattle.ide_types.specs.Lines.{is_hosted}
use Rattle.spec_links.specs.Plan.{key_plan}
use Rattle.key_host.specs.Exchanges.{kept_key}
use Rattle.key_slots.specs.Wires.{WireKeys}
use Rattle.key_host.specs.Streams.{StreamView, HostView, begun_pool}
use Rattle.key_host.specs.Walk.{verdict_of, due_on, op_if_reached}
use Rattle.spec_stream.specs.Stream.{StreamState}
use Rattle.sub_stream.specs.Calls.{pair_at, stream_status}
use Rattle.join_keys.specs.Calls.{lane_key}
use Rattle.machine_operations.specs.{LinkState, find, find_op, port_at, place_at_end, ports_of, machine_status}
use Rattle.machine_operations.specs.{touches_at, draws_after, touched_stream, PortsStandFor}
use Rattle.join_keys.specs.Walks.{StreamEnds, WalkedEnds, event_walk}

-- what the manager reads of the host's port
abbrev pub host_of : StreamState → HostView
host_of x = record { status = Some (stream_status x); live = λ (u : SubKind). live_set (pair_at true u x) }

-- ---- the manager's part of a stream

-- each key whose KEY_PROG is not acknowledged is kept, and is the draw's; the first KEY_PROG is exchange `first`
abbrev pub HasKeys : Plan → ℕ → ℕ → ℕ → WireKeys → Type 0
HasKeys plan draw first next keys =
    (lane : ℕ) → lane < 6 → next ≤ first + lane → kept_key keys lane ≡ Some (lane_key plan draw lane)

-- an unfinished operation is at one of its exchanges
abbrev pub KeysKeptInStage : Plan → StreamStage → WireKeys → Type 0
KeysKeptInStage plan (Establishing draw next) keys = (1 ≤ next) × (next ≤ 13) × HasKeys plan draw 2 next keys
KeysKeptInStage plan (Refreshing set draw next) keys = (1 ≤ next) × (next ≤ 12) × HasKeys plan draw 1 next keys
KeysKeptInStage plan (Stopping next) keys = (1 ≤ next) × (next ≤ 12)
KeysKeptInStage plan o keys = Unit {0}

abbrev pub KeysKept : Plan → StreamView → Type 0
KeysKept plan s = KeysKeptInStage plan s.op s.keys

-- ---- the law

-- the stream at a port after an event that came so far; as before if it was refused
abbrev pub touched_by : Plan → LinkState → ℕ → ℕ → Work → Side → Option Reach → StreamState → StreamState
touched_by plan st line stream w side None x = x
touched_by plan st line stream w side (Some r) x =
    touched_stream plan (port_at side line) stream
    (λ u. touches_at (ports_of plan st) w r (place_at_end line stream true side u))
    (λ u. touches_at (ports_of plan st) w r (place_at_end line stream false side u)) x

abbrev pub draws_by : ℕ → Work → Option Reach → ℕ
draws_by next w None = next
draws_by next w (Some r) = draws_after next w

-- the machine's verdict of an operation on the stream
abbrev pub verdict_due : Plan → LinkState → Operation → StreamStage → ℕ → ℕ → Option Loss → Verdict
verdict_due plan st operation o line stream loss =
    due_on operation (key_plan plan) o st.draws (ports_of plan st) (machine_status plan st Host line stream) line stream
    loss

-- the pool after the beginning; a refusal draws nothing
abbrev pub pool_by : Work → Option Reach → Pool → Pool
pool_by w None pool = pool
pool_by w (Some r) pool = begun_pool w pool

-- what an event gives: the verdict, ports, operations, draws and keys
pub record IsJoined (plan : Plan) (st : LinkState) (operation : Operation) (loss : Option Loss) (pool : Pool)
    (e : StreamEnds) (r : WalkedEnds) : Type 0 where
  pub verdict_is : verdict_of operation e.keeper.line e.keeper.id loss r.outcome
      ≡ Some (verdict_due plan st operation e.keeper.op e.keeper.line e.keeper.id loss)
  pub op_is : let w = work_of operation e.keeper.op st.draws in
      r.ends.keeper.op ≡ op_if_reached (is_hosted e.keeper.line) e.keeper.op w
      (reach_of operation (verdict_due plan st operation e.keeper.op e.keeper.line e.keeper.id loss))
  pub host_is : let w = work_of operation e.keeper.op st.draws in
      r.ends.host ≡ touched_by plan st e.keeper.line e.keeper.id w Host
      (reach_of operation (verdict_due plan st operation e.keeper.op e.keeper.line e.keeper.id loss)) e.host
  pub device_is : let w = work_of operation e.keeper.op st.draws in
      r.ends.device ≡ touched_by plan st e.keeper.line e.keeper.id w Device
      (reach_of operation (verdict_due plan st operation e.keeper.op e.keeper.line e.keeper.id loss)) e.device
  pub draws_is : let w = work_of operation e.keeper.op st.draws in
      (pool_by w (reach_of operation (verdict_due plan st operation e.keeper.op e.keeper.line e.keeper.id loss))
      pool).draws
      ≡ draws_by st.draws w (reach_of operation (verdict_due plan st operation e.keeper.op e.keeper.line
      e.keeper.id loss))
  pub line_is : r.ends.keeper.line ≡ e.keeper.line
  pub id_is : r.ends.keeper.id ≡ e.keeper.id
  pub keys_are : KeysKept plan r.ends.keeper

-- It is so on a line with a host's port at its near end, if the state of the machine stands for a history, and both
-- ends, the manager and the pool are as it says.
abbrev pub OperationsJoin : Type 0
OperationsJoin =
    (plan : Plan) (st : LinkState) (h : History) (operation : Operation) (loss : Option Loss) (requester : ℕ)
    (pool : Pool) (e : StreamEnds)
    → FitsPlan plan → PortsStandFor plan st h → requester ≤ 65535 → is_hosted e.keeper.line ≡ true
    → find plan st (port_at Host e.keeper.line) e.keeper.id ≡ Some e.host
    → find plan st (port_at Device e.keeper.line) e.keeper.id ≡ Some e.device
    → find_op plan st e.keeper.line e.keeper.id ≡ Some e.keeper.op
    → pool ≡ record { keys = plan.pool; draws = st.draws } → KeysKept plan e.keeper
    → IsJoined plan st operation loss pool e (event_walk operation (host_of e.host) pool loss requester e)
