-- The calls of an operation's event at the two ports of a stream, one after another.
use Rattle.std.specs.Prelude.{ℕ, suc, zero, ◌==◌, ◌+◌, ◌-◌, ◌*◌, ◌/◌, ◌%◌, nat_lt, Bool, true, List, [], ◌∷◌, ◌++◌, map}
use Rattle.std.specs.Prelude.{if◌then◌else◌}
use Rattle.std.specs.List.{slice_index_or}
use Rattle.ide_types.specs.declared.sub.SubKind.{SubKind}
use Rattle.ide_types.specs.declared.port.Side.{Side}
use Rattle.ide_types.specs.declared.port.Side.TheVariants.{Host, Device}
use Rattle.spec_keys.specs.Places.{is_same_side}
use Rattle.ide_types.specs.declared.plan.Plan.{Plan}
use Rattle.ide_types.specs.{is_one, key_set}
use Rattle.ide_prefix.specs.{sub_from}
use Rattle.key_slots.specs.{KeyCall, Program, Go, Stop}
use Rattle.key_messages.specs.{PlaceCall}
use Rattle.spec_keys.specs.Operations.{Work}
use Rattle.key_host.specs.declared.exchange.Exchange.{Exchange}
use Rattle.key_host.specs.declared.exchange.Exchange.TheVariants as exchange
use Rattle.key_host.specs.Exchanges.{exchange_of, end_of}
use Rattle.spec_stream.specs.Stream.{StreamState}
use Rattle.sub_stream.specs.Calls.{sends_in, stream_after_call}

-- a call at a port: whether at a sender, and in which sub-stream
pub record StreamCall : Type 0 where
  pub sends : Bool
  pub sub : SubKind
  pub call : KeyCall

-- calls in order
abbrev pub all_called : List StreamCall → StreamState → StreamState
all_called [] x = x
all_called (c ∷ cs) x = all_called cs (stream_after_call c.sends c.sub c.call x)

-- ---- calls at places

-- a call at a place of the port of this side
abbrev pub stream_call : Side → PlaceCall → StreamCall
stream_call side c = record { sends = sends_in side c.place.direction; sub = sub_from c.place.sub; call = c.call }

abbrev pub all_called_at_side : Side → List PlaceCall → StreamState → StreamState
all_called_at_side side cs x = all_called (map (stream_call side) cs) x

-- ---- exchanges at an end: its receivers are lanes 0 to 2, its senders lanes 3 to 5

-- whether the end sends in a lane
abbrev pub lane_sends : ℕ → Bool
lane_sends lane = lane / 3 == 1

abbrev pub lane_call : ℕ → KeyCall → StreamCall
lane_call lane call = record { sends = lane_sends lane; sub = sub_from (lane % 3); call = call }

-- the key of a draw by its number among the six: those of direction 0, then those of direction 1
abbrev pub lane_key : Plan → ℕ → ℕ → List ℕ
lane_key plan draw i = slice_index_or plan.pool (6 * draw + i) []

-- the number of a lane's key: a far end receives direction 0, a near end direction 1
abbrev pub key_number : Side → ℕ → ℕ
key_number Host lane = if nat_lt lane 3 then 3 + lane else lane - 3
key_number Device lane = lane

abbrev pub call_of_exchange : Plan → ℕ → Side → Exchange → List StreamCall
call_of_exchange plan draw side exchange.Query = []
call_of_exchange plan draw side (exchange.Program set lane) =
    lane_call lane (Program (is_one set) (lane_key plan draw (key_number side lane)) draw) ∷ []
call_of_exchange plan draw side (exchange.Go set lane) = lane_call lane (Go (is_one set)) ∷ []
call_of_exchange plan draw side (exchange.Stop set lane) = lane_call lane (Stop (is_one set)) ∷ []

-- the calls that exchange n of an operation makes at an end: none if it is carried to the other
abbrev pub told_call : Plan → (hosted : Bool) → Side → Work → ℕ → List StreamCall
told_call plan hosted side w n =
    if is_same_side (end_of hosted w.operation n) side
    then call_of_exchange plan w.draw side (exchange_of hosted w.operation (key_set w.set) n)
    else []

-- of so many exchanges from this one on
abbrev pub calls_from : (ℕ → List StreamCall) → ℕ → ℕ → List StreamCall
calls_from each n zero = []
calls_from each n (suc more) = each n ++ calls_from each (n + 1) more

-- with a host's port at the near end all are made at the device's port
abbrev pub exchange_call : Plan → Work → ℕ → List StreamCall
exchange_call plan w n = told_call plan true Device w n

abbrev pub exchanges_called : Plan → Work → ℕ → ℕ → List StreamCall
exchanges_called plan w n more = calls_from (exchange_call plan w) n more
