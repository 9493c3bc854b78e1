-- What the manager keeps of a stream, and what each call makes of it (this profile).
use Rattle.std.specs.Prelude.{ℕ, ◌+◌, ◌<◌, ◌≤◌, ◌==◌, nat_lt, Bool, true, false, not, ◌&&◌, if◌then◌else◌, IsSome}
use Rattle.std.specs.Prelude.{Option, Some, None, List, [], Result, Ok, Err, slice_set}
use Rattle.ide_types.specs.declared.sub.SubKind.{SubKind}
use Rattle.ide_types.specs.declared.sub.SubKind.TheVariants.{Pr, Npr, Cpl}
use Rattle.ide_types.specs.declared.status.StreamStatus.{StreamStatus}
use Rattle.ide_types.specs.declared.status.StreamStatus.TheVariants as status
use Rattle.event_verdicts.specs.declared.verdict.Operation.{Operation}
use Rattle.event_verdicts.specs.declared.verdict.Operation.TheVariants as op
use Rattle.key_slots.specs.{KeySet, is_one, key_set, Pool, draws_in, six_keys, pool_after}
use Rattle.spec_keys.specs.Operations.{StreamStage, Idle, Establishing, Up, Refreshing, Stopping, Work, new_work}
use Rattle.spec_keys.specs.Operations.{work_of, last_exchange_of, makes_draw, new_reach, op_after_reach, op_after_reset}
use Rattle.spec_keys.specs.Operations.{op_at_exchange}
use Rattle.key_messages.specs.declared.object.KmView.{KmView}
use Rattle.key_messages.specs.{PlaceCall}
use Rattle.key_host.specs.declared.exchange.Exchange.{Exchange}
use Rattle.key_host.specs.declared.exchange.Exchange.TheVariants as exchange
use Rattle.key_host.specs.declared.judge.Judged.{Judged}
use Rattle.key_host.specs.declared.judge.Judged.TheVariants.{Expected, Lost, Refused, Bad}
use Rattle.key_host.specs.declared.operation.StreamOutcome.{StreamOutcome}
use Rattle.key_host.specs.declared.operation.StreamOutcome.TheVariants as outcome
use Rattle.key_host.specs.declared.operation.StreamRefusal.{StreamRefusal}
use Rattle.key_host.specs.declared.operation.StreamRefusal.TheVariants.{NotIdle, NotSecure, PoolEmpty, SessionLost}
use Rattle.key_host.specs.declared.operation.StreamRefusal.TheVariants.{DeviceRefused, BadReply, Busy, UnitOpen}
use Rattle.key_host.specs.declared.operation.StreamResult.{StreamResult}
use Rattle.key_host.specs.declared.operation.StreamResult.TheVariants as shown
use Rattle.key_host.specs.declared.stage.NextExchange.{NextExchange}
use Rattle.key_host.specs.declared.stage.Stage.{Stage}
use Rattle.key_host.specs.declared.stage.Stage.TheVariants as stage
use Rattle.key_slots.specs.Wires.{WireKeys}
use Rattle.key_host.specs.Exchanges.{exchange_of, end_of, exchange_lane, is_last_receiver_go, kept_key}
use Rattle.key_host.specs.Exchanges.{wire_number, wire_keys, request_of}
use Rattle.ide_types.specs.Lines.{is_hosted}
use Rattle.ide_types.specs.declared.port.Side.{Side}
use Rattle.ide_types.specs.declared.port.PortName.{PortName}
use Rattle.spec_keys.specs.Places.{is_line_reset}
use Rattle.key_host.specs.Local.{programs, goes, stream_stop_calls}

-- A stream of a line, with the state of its operations, and the keys of an establish or refresh that is unfinished, in
-- the order of their KEY_PROGs: each is kept until its own is acknowledged. There are no others.
pub record StreamView : Type 0 where
  pub line : ℕ
  pub id : ℕ
  pub op : StreamStage
  pub keys : WireKeys

abbrev pub new_stream : ℕ → ℕ → StreamView
new_stream line id = record { line = line; id = id; op = Idle; keys = [] }

abbrev pub is_named : ℕ → ℕ → StreamView → Bool
is_named line id s = (s.line == line) && (s.id == id)

-- after a reset that clears these ends: of a line that is cut no keys are on their way
abbrev pub reset_stream : List PortName → StreamView → StreamView
reset_stream ends s = record s {
  op = op_after_reset ends s.line s.op;
  keys = if is_line_reset ends s.line then [] else s.keys;
}

-- whether a host's port is at the near end of its line
abbrev pub has_host : StreamView → Bool
has_host s = is_hosted s.line

-- ---- as it is kept

abbrev pub op_of_stage : Stage → StreamStage
op_of_stage stage.Idle = Idle
op_of_stage (stage.Establishing draw next keys) = Establishing draw next
op_of_stage (stage.Up set draw) = Up (is_one set) draw
op_of_stage (stage.Refreshing set draw next keys) = Refreshing (is_one set) draw next
op_of_stage (stage.Stopping next) = Stopping next

abbrev pub stage_keys : Stage → WireKeys
stage_keys (stage.Establishing draw next keys) = keys
stage_keys (stage.Refreshing set draw next keys) = keys
stage_keys s = []

-- the number of the exchange that is next, 0 if there is none
abbrev pub next_in : Stage → ℕ
next_in (stage.Establishing draw next keys) = next
next_in (stage.Refreshing set draw next keys) = next
next_in (stage.Stopping next) = next
next_in s = 0

-- at the next exchange
abbrev pub op_advanced : StreamStage → StreamStage
op_advanced (Establishing draw next) = Establishing draw (next + 1)
op_advanced (Refreshing set draw next) = Refreshing set draw (next + 1)
op_advanced (Stopping next) = Stopping (next + 1)
op_advanced o = o

-- an establish or a refresh at its first exchange
abbrev pub keyed_stage : Operation → KeySet → ℕ → WireKeys → Stage
keyed_stage op.Refresh set draw keys = stage.Refreshing set draw 1 keys
keyed_stage operation set draw keys = stage.Establishing draw 1 keys

-- the first KEY_PROG of an operation, and how many it has
abbrev pub first_program : (hosted : Bool) → Operation → ℕ
first_program true op.Establish = 2
first_program _ o = 1

abbrev pub key_count : (hosted : Bool) → ℕ
key_count true = 6
key_count false = 12

-- each key whose KEY_PROG is not acknowledged is kept; the first of so many is exchange `first`, the next `next`
abbrev pub KeysLeft : ℕ → ℕ → ℕ → WireKeys → Type 0
KeysLeft count first next keys = (i : ℕ) → i < count → next ≤ first + i → IsSome (kept_key keys i)

-- an unfinished operation is at one of its exchanges
abbrev pub IsWithin : (hosted : Bool) → Operation → ℕ → Type 0
IsWithin hosted o next = (1 ≤ next) × (next ≤ last_exchange_of hosted o)

abbrev pub StageHolds : (hosted : Bool) → Stage → Type 0
StageHolds hosted (stage.Establishing draw next keys) =
    IsWithin hosted op.Establish next × KeysLeft (key_count hosted) (first_program hosted op.Establish) next keys
StageHolds hosted (stage.Refreshing set draw next keys) =
    IsWithin hosted op.Refresh next × KeysLeft (key_count hosted) (first_program hosted op.Refresh) next keys
StageHolds hosted (stage.Stopping next) = IsWithin hosted op.Stop next
StageHolds hosted s = Unit {0}

-- what the manager says of a stream by its operations alone: it has keys, or none, or some
abbrev pub key_status : StreamStage → StreamStatus
key_status (Up set draw) = status.Secure
key_status Idle = status.Idle
key_status o = status.Partial

-- ---- the exchange that is next

abbrev pub asked_exchange : Operation → Bool → ℕ → ℕ → NextExchange
asked_exchange o set draw n = record { operation = o; set = key_set set; draw = draw; exchange = n }

-- of an unfinished operation
abbrev pub asked_of_unfinished : StreamStage → Option NextExchange
asked_of_unfinished (Establishing draw next) = Some (asked_exchange op.Establish false draw next)
asked_of_unfinished (Refreshing set draw next) = Some (asked_exchange op.Refresh set draw next)
asked_of_unfinished (Stopping next) = Some (asked_exchange op.Stop false 0 next)
asked_of_unfinished o = None

abbrev pub exchange_asked : (hosted : Bool) → NextExchange → Exchange
exchange_asked hosted a = exchange_of hosted a.operation a.set a.exchange

-- the end that it is carried to
abbrev pub end_asked : (hosted : Bool) → NextExchange → Side
end_asked hosted a = end_of hosted a.operation a.exchange

-- the number of its key, if it brings one
abbrev pub wire_asked : (hosted : Bool) → NextExchange → ℕ
wire_asked hosted a = wire_number hosted (end_asked hosted a) (exchange_lane (exchange_asked hosted a))

abbrev pub work_asked : NextExchange → Work
work_asked a = new_work a.operation (is_one a.set) a.draw a.exchange false

-- its request
abbrev pub request_asked : (hosted : Bool) → NextExchange → StreamView → KmView
request_asked hosted a s = request_of s.id s.keys (wire_asked hosted a) (exchange_asked hosted a)

-- ---- begin: refusals

-- what is read of the host's port
pub record HostView : Type 0 where
  pub status : Option StreamStatus
  pub live : SubKind → Option KeySet

abbrev pub host_view : {Port : Type 0} → (Port → ℕ → Option StreamStatus) → (Port → ℕ → SubKind → Option KeySet) → Port
    → ℕ → HostView
host_view status_of live_of port stream = record { status = status_of port stream; live = live_of port stream }

-- a port without the stream has no key of it
abbrev pub status_or_idle : Option StreamStatus → StreamStatus
status_or_idle None = status.Idle
status_or_idle (Some s) = s

abbrev pub is_set : Bool → Option KeySet → Bool
is_set set None = false
is_set set (Some live) = if set then is_one live else not (is_one live)

-- the first sub-stream, PR first, whose Live key is in the set that is to be programmed
abbrev pub open_unit_refusal : HostView → Bool → Option StreamRefusal
open_unit_refusal host set =
    if is_set set (host.live Pr) then Some (UnitOpen Pr)
    else if is_set set (host.live Npr) then Some (UnitOpen Npr)
    else if is_set set (host.live Cpl) then Some (UnitOpen Cpl)
    else None

abbrev pub unless_secure : StreamStatus → Option StreamRefusal → Option StreamRefusal
unless_secure status.Secure refusal = refusal
unless_secure s refusal = Some (NotSecure s)

abbrev pub establish_refusal : StreamStage → Option StreamRefusal
establish_refusal Idle = None
establish_refusal (Establishing draw next) = None
establish_refusal (Up set draw) = Some NotIdle
establish_refusal (Refreshing set draw next) = Some (Busy op.Refresh)
establish_refusal (Stopping next) = Some (Busy op.Stop)

abbrev pub refresh_refusal : StreamStage → HostView → Option StreamRefusal
refresh_refusal Idle host = Some (NotSecure (status_or_idle host.status))
refresh_refusal (Establishing draw next) host = Some (Busy op.Establish)
refresh_refusal (Up set draw) host = unless_secure (status_or_idle host.status) (open_unit_refusal host (not set))
refresh_refusal (Refreshing set draw next) host = None
refresh_refusal (Stopping next) host = Some (Busy op.Stop)

-- all refusals but that of an empty pool, which comes last
abbrev pub operation_refusal : Operation → StreamStage → HostView → Option StreamRefusal
operation_refusal op.Establish o host = establish_refusal o
operation_refusal op.Refresh o host = refresh_refusal o host
operation_refusal op.Stop o host = None

-- the key set of a keyed stream, else set 0
abbrev pub current_set : StreamStage → Bool
current_set (Up set draw) = set
current_set o = false

-- whether the operation begins with a draw
abbrev pub draws_now : Work → Bool
draws_now w = w.begins && makes_draw w.operation

abbrev pub pool_refusal : Work → Pool → Option StreamRefusal
pool_refusal w pool = if draws_now w && not (nat_lt pool.draws (draws_in pool.keys))
    then Some (PoolEmpty pool.draws) else None

abbrev pub first_of : Option StreamRefusal → Option StreamRefusal → Option StreamRefusal
first_of None second = second
first_of (Some refusal) second = Some refusal

abbrev pub refusal_of : Operation → StreamStage → HostView → Pool → Option StreamRefusal
refusal_of operation o host pool = first_of (operation_refusal operation o host)
    (pool_refusal (work_of operation o pool.draws) pool)

-- ---- begin: what it does

abbrev pub ok_unless : Option StreamRefusal → Result (Unit {0}) StreamRefusal
ok_unless None = Ok tt
ok_unless (Some refusal) = Err refusal

-- a refusal changes nothing
abbrev pub unless : {A : Type 0} → Option StreamRefusal → A → A → A
unless None old new = new
unless (Some refusal) old new = old

-- the operation stands at its first exchange, with the six keys of its draw; one that goes on is as it was
abbrev pub begun_stream : (hosted : Bool) → Work → Pool → StreamView → StreamView
begun_stream hosted w pool s =
    if w.begins then
    record s {
      op = op_at_exchange w 1;
      keys = if makes_draw w.operation then wire_keys hosted (six_keys pool.keys w.draw) else [];
    }
    else s

abbrev pub begun_pool : Work → Pool → Pool
begun_pool w pool = if draws_now w then pool_after pool else pool

-- a host's slots of the set are programmed with the same keys; of a stop all are emptied
abbrev pub begun_calls : (hosted : Bool) → Work → Pool → ℕ → List PlaceCall
begun_calls true w pool stream =
    if w.begins then (if makes_draw w.operation then programs stream w.set (six_keys pool.keys w.draw) w.draw
    else stream_stop_calls stream)
    else []
begun_calls false w pool stream = []

-- ---- take

abbrev pub is_last : (hosted : Bool) → NextExchange → Bool
is_last hosted a = a.exchange == last_exchange_of hosted a.operation

abbrev pub shown_at_end : NextExchange → StreamResult
shown_at_end a = if makes_draw a.operation then shown.Draw a.draw else shown.Stopped

abbrev pub outcome_of : (hosted : Bool) → NextExchange → Judged → StreamOutcome
outcome_of hosted a Expected = if is_last hosted a then outcome.Done (shown_at_end a) else outcome.Next
outcome_of hosted a Lost = outcome.Refused (SessionLost a.exchange)
outcome_of hosted a (Refused code) = outcome.Refused (DeviceRefused a.exchange code)
outcome_of hosted a Bad = outcome.Refused (BadReply a.exchange)

-- a key goes if its KEY_PROG is acknowledged
abbrev pub wire_keys_after : Exchange → ℕ → WireKeys → WireKeys
wire_keys_after (exchange.Program set lane) i keys = slice_set keys i None
wire_keys_after e i keys = keys

-- the exchange is acknowledged
abbrev pub stream_acknowledged : (hosted : Bool) → NextExchange → StreamView → StreamView
stream_acknowledged hosted a s = record s {
  op = op_after_reach hosted (work_asked a) (new_reach (a.exchange + 1) (a.exchange + 1));
  keys = if is_last hosted a then [] else wire_keys_after (exchange_asked hosted a) (wire_asked hosted a) s.keys;
}

-- only an expected reply goes on
abbrev pub taken_stream : (hosted : Bool) → NextExchange → Judged → StreamView → StreamView
taken_stream hosted a Expected s = stream_acknowledged hosted a s
taken_stream hosted a judged s = s

-- a host's port goes on if the last of the device's receivers did
abbrev pub taken_calls : (hosted : Bool) → NextExchange → Judged → ℕ → List PlaceCall
taken_calls true a Expected stream =
    if is_last_receiver_go (exchange_asked true a) then goes stream (is_one a.set) else []
taken_calls hosted a judged stream = []
