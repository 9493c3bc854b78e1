-- An event of an operation on a line that is keyed by messages at both ends: the manager begins it, and its exchanges
-- are carried one after another, each to its end. The session may lose each of them.
use Rattle.std.specs.Prelude.{ℕ, ◌≡◌, ◌≢◌, ◌≤◌, ◌<◌, suc, zero, false, Option, Some, None}
use Rattle.ide_types.specs.Lines.{is_hosted}
use Rattle.ide_types.specs.declared.port.Side.{Side}
use Rattle.ide_types.specs.declared.port.Side.TheVariants.{Host, Device}
use Rattle.ide_types.specs.declared.plan.Plan.{Plan}
use Rattle.ide_types.specs.Fits.{FitsPlan}
use Rattle.script_events.specs.declared.event.Loss.{Loss}
use Rattle.script_events.specs.declared.event.Lost.{Lost}
use Rattle.script_events.specs.declared.event.Lost.TheVariants.{Request, Reply}
use Rattle.event_verdicts.specs.declared.verdict.Operation.{Operation}
use Rattle.event_verdicts.specs.declared.verdict.Operation.TheVariants as op
use Rattle.key_slots.specs.{Pool}
use Rattle.spec_keys.specs.Places.{is_host}
use Rattle.spec_keys.specs.Operations.{StreamStage, Establishing, Refreshing, Stopping, Work, work_of, reach_of}
use Rattle.spec_keys.specs.History.{History, program_number}
use Rattle.spec_keys.specs.Due.{lost_message}
use Rattle.key_messages.specs.declared.object.KmView.{KmView}
use Rattle.key_host.specs.declared.judge.Judged.{Judged}
use Rattle.key_host.specs.declared.judge.Judged.TheVariants.{Lost as NotCarried}
use Rattle.key_host.specs.declared.operation.StreamOutcome.{StreamOutcome}
use Rattle.key_host.specs.declared.operation.StreamOutcome.TheVariants as outcome
use Rattle.key_host.specs.declared.operation.StreamRefusal.{StreamRefusal}
use Rattle.key_host.specs.declared.stage.NextExchange.{NextExchange}
use Rattle.key_host.specs.Exchanges.{kept_key, wire_number}
use Rattle.key_slots.specs.Wires.{WireKeys}
use Rattle.key_host.specs.Streams.{StreamView, HostView, asked_of_unfinished, end_asked, request_asked, refusal_of}
use Rattle.key_host.specs.Streams.{begun_stream, outcome_of, taken_stream}
use Rattle.key_host.specs.Walk.{verdict_of, op_if_reached}
use Rattle.spec_stream.specs.Stream.{StreamState}
use Rattle.machine_operations.specs.{LinkState, find, find_op, port_at, PortsStandFor}
use Rattle.join_keys.specs.Calls.{lane_key, key_number}
use Rattle.join_keys.specs.Walks.{came_to}
use Rattle.join_keys.specs.Joined.{verdict_due, touched_by, draws_by, pool_by}

-- both ends' parts of a stream, and what the manager keeps of it
pub record PairStreams : Type 0 where
  pub near : StreamState
  pub far : StreamState
  pub keeper : StreamView

-- ---- one exchange

-- how the manager judges what is carried back, and the stream at both ends after it
pub record PairExchanged : Type 0 where
  pub judged : Judged
  pub near : StreamState
  pub far : StreamState

-- the request reached its end, where the direction of a place is the selector's
abbrev pub came_to_end : Side → ℕ → KmView → ℕ → PairStreams → PairExchanged
came_to_end Host requester request draw e =
    let x = came_to requester request e.keeper.id draw e.near in
    record { judged = x.judged; near = x.device; far = e.far }
came_to_end Device requester request draw e =
    let x = came_to requester request e.keeper.id draw e.far in
    record { judged = x.judged; near = e.near; far = x.device }

abbrev pub pair_unless_lost : Option Lost → PairExchanged → PairStreams → PairExchanged
pair_unless_lost None came e = came
pair_unless_lost (Some Request) came e = record { judged = NotCarried; near = e.near; far = e.far }
pair_unless_lost (Some Reply) came e = record { judged = NotCarried; near = came.near; far = came.far }

abbrev pub pair_exchanged : Option Loss → ℕ → NextExchange → PairStreams → PairExchanged
pair_exchanged loss requester a e =
    pair_unless_lost (lost_message loss a.exchange)
    (came_to_end (end_asked false a) requester (request_asked false a e.keeper) a.draw e) e

abbrev pub pair_after : NextExchange → PairExchanged → PairStreams → PairStreams
pair_after a x e = record { near = x.near; far = x.far; keeper = taken_stream false a x.judged e.keeper }

-- ---- one exchange after another

pub record PairWalked : Type 0 where
  pub outcome : StreamOutcome
  pub ends : PairStreams

abbrev pub pair_goes_on : StreamOutcome → PairStreams → PairWalked → PairWalked
pair_goes_on outcome.Next e rest = rest
pair_goes_on o e rest = record { outcome = o; ends = e }

-- what the next exchange gives, if there is one
abbrev pub pair_outcome : Option Loss → ℕ → PairStreams → Option NextExchange → StreamOutcome
pair_outcome loss requester e None = outcome.Next
pair_outcome loss requester e (Some a) = outcome_of false a (pair_exchanged loss requester a e).judged

abbrev pub pair_next : Option Loss → ℕ → PairStreams → Option NextExchange → PairStreams
pair_next loss requester e None = e
pair_next loss requester e (Some a) = pair_after a (pair_exchanged loss requester a e) e

-- up to so many exchanges
abbrev pub pair_walk : (more : ℕ) → Option Loss → ℕ → PairStreams → PairWalked
pair_walk zero loss requester e = record { outcome = outcome.Next; ends = e }
pair_walk (suc more) loss requester e =
    pair_goes_on (pair_outcome loss requester e (asked_of_unfinished e.keeper.op))
    (pair_next loss requester e (asked_of_unfinished e.keeper.op))
    (pair_walk more loss requester (pair_next loss requester e (asked_of_unfinished e.keeper.op)))

-- ---- an event

-- it begins, or goes on: nothing is called at either end
abbrev pub begun_pair : Work → Pool → PairStreams → PairStreams
begun_pair w pool e = record { near = e.near; far = e.far; keeper = begun_stream false w pool e.keeper }

abbrev pub pair_walked_unless : Option StreamRefusal → PairStreams → PairWalked → PairWalked
pair_walked_unless (Some refusal) e walked = record { outcome = outcome.Refused refusal; ends = e }
pair_walked_unless None e walked = walked

-- a refusal, or what up to 24 exchanges give
abbrev pub pair_event : Operation → HostView → Pool → Option Loss → ℕ → PairStreams → PairWalked
pair_event operation host pool loss requester e =
    let w = work_of operation e.keeper.op pool.draws in
    pair_walked_unless (refusal_of operation e.keeper.op host pool) e
    (pair_walk 24 loss requester (begun_pair w pool e))

-- ---- the manager's part of a stream

-- each key whose KEY_PROG is not acknowledged is kept, and is the draw's
abbrev pub HasPairKeys : Plan → ℕ → ℕ → WireKeys → Type 0
HasPairKeys plan draw next keys =
    (side : Side) (lane : ℕ) → lane < 6 → next ≤ program_number false (is_host side) op.Establish lane
    → kept_key keys (wire_number false side lane) ≡ Some (lane_key plan draw (key_number side lane))

-- an unfinished operation is at one of its exchanges
abbrev pub PairKeysKeptIn : Plan → StreamStage → WireKeys → Type 0
PairKeysKeptIn plan (Establishing draw next) keys = (1 ≤ next) × (next ≤ 24) × HasPairKeys plan draw next keys
PairKeysKeptIn plan (Refreshing set draw next) keys = (1 ≤ next) × (next ≤ 24) × HasPairKeys plan draw next keys
PairKeysKeptIn plan (Stopping next) keys = (1 ≤ next) × (next ≤ 24)
PairKeysKeptIn plan o keys = Unit {0}

-- ---- the law

-- what an event gives: the verdict, both ends, operations, draws and keys
pub record IsPairJoined (plan : Plan) (st : LinkState) (operation : Operation) (loss : Option Loss) (pool : Pool)
    (e : PairStreams) (r : PairWalked) : Type 0 where
  pub verdict_is : verdict_of operation e.keeper.line e.keeper.id loss r.outcome
      ≡ Some (verdict_due plan st operation e.keeper.op e.keeper.line e.keeper.id loss)
  pub op_is : let w = work_of operation e.keeper.op st.draws in
      r.ends.keeper.op ≡ op_if_reached (is_hosted e.keeper.line) e.keeper.op w
      (reach_of operation (verdict_due plan st operation e.keeper.op e.keeper.line e.keeper.id loss))
  pub near_is : let w = work_of operation e.keeper.op st.draws in
      r.ends.near ≡ touched_by plan st e.keeper.line e.keeper.id w Host
      (reach_of operation (verdict_due plan st operation e.keeper.op e.keeper.line e.keeper.id loss)) e.near
  pub far_is : let w = work_of operation e.keeper.op st.draws in
      r.ends.far ≡ touched_by plan st e.keeper.line e.keeper.id w Device
      (reach_of operation (verdict_due plan st operation e.keeper.op e.keeper.line e.keeper.id loss)) e.far
  pub draws_is : let w = work_of operation e.keeper.op st.draws in
      (pool_by w (reach_of operation (verdict_due plan st operation e.keeper.op e.keeper.line e.keeper.id loss))
      pool).draws
      ≡ draws_by st.draws w (reach_of operation (verdict_due plan st operation e.keeper.op e.keeper.line
      e.keeper.id loss))
  pub line_is : r.ends.keeper.line ≡ e.keeper.line
  pub id_is : r.ends.keeper.id ≡ e.keeper.id
  pub keys_are : PairKeysKeptIn plan r.ends.keeper.op r.ends.keeper.keys

-- It is so of an establish and a stop on a line with no host's port, if the state of the machine stands for a history,
-- and both ends, the manager and the pool are as it says. Nothing is read of a host's port.
abbrev pub PairOperationsJoin : Type 0
PairOperationsJoin =
    (plan : Plan) (st : LinkState) (h : History) (operation : Operation) (loss : Option Loss) (requester : ℕ)
    (host : HostView) (pool : Pool) (e : PairStreams)
    → operation ≢ op.Refresh
    → FitsPlan plan → PortsStandFor plan st h → requester ≤ 65535 → is_hosted e.keeper.line ≡ false
    → find plan st (port_at Host e.keeper.line) e.keeper.id ≡ Some e.near
    → find plan st (port_at Device e.keeper.line) e.keeper.id ≡ Some e.far
    → find_op plan st e.keeper.line e.keeper.id ≡ Some e.keeper.op
    → pool ≡ record { keys = plan.pool; draws = st.draws } → PairKeysKeptIn plan e.keeper.op e.keeper.keys
    → IsPairJoined plan st operation loss pool e (pair_event operation host pool loss requester e)
