-- An event of an operation at both ends of a stream: the manager begins it, and its exchanges are carried one after
-- another. The session may lose each of them.
use Rattle.std.specs.Prelude.{ℕ, suc, zero, ◌==◌, nat_lt, ◌&&◌, true, List, [], ◌∷◌, Option, Some, None, if◌then◌else◌}
use Rattle.ide_types.specs.declared.port.Side.TheVariants.{Host, Device}
use Rattle.script_events.specs.declared.event.Loss.{Loss}
use Rattle.script_events.specs.declared.event.Lost.{Lost}
use Rattle.script_events.specs.declared.event.Lost.TheVariants.{Request, Reply}
use Rattle.event_verdicts.specs.declared.verdict.Operation.{Operation}
use Rattle.key_slots.specs.{Pool}
use Rattle.spec_keys.specs.Operations.{Work, work_of}
use Rattle.key_messages.specs.declared.object.KmView.{KmView}
use Rattle.key_messages.specs.declared.place.Place.{Place}
use Rattle.key_messages.specs.{PlaceCall, SlotsShown, is_done, call_of, reply_bytes, object_spelling, object_reading}
use Rattle.ide_prefix.specs.{sub_from}
use Rattle.key_host.specs.declared.judge.Judged.{Judged}
use Rattle.key_host.specs.declared.judge.Judged.TheVariants.{Lost as NotCarried, Bad}
use Rattle.key_host.specs.declared.operation.StreamOutcome.{StreamOutcome}
use Rattle.key_host.specs.declared.operation.StreamOutcome.TheVariants as outcome
use Rattle.key_host.specs.declared.operation.StreamRefusal.{StreamRefusal}
use Rattle.key_host.specs.declared.stage.NextExchange.{NextExchange}
use Rattle.key_host.specs.Judging.{judged_reply}
use Rattle.key_host.specs.Streams.{StreamView, HostView, asked_of_unfinished, request_asked, refusal_of, begun_stream}
use Rattle.key_host.specs.Streams.{begun_calls, outcome_of, taken_stream, taken_calls}
use Rattle.spec_stream.specs.Stream.{StreamState}
use Rattle.sub_stream.specs.Calls.{sends_in, pair_at, stream_after_call}
use Rattle.join_keys.specs.Calls.{all_called_at_side}

-- the two ports' parts of a stream, and what the manager keeps of it
pub record StreamEnds : Type 0 where
  pub host : StreamState
  pub device : StreamState
  pub keeper : StreamView

-- ---- the device's port

-- the slots that it shows of a stream
abbrev pub shown_stream : ℕ → StreamState → SlotsShown
shown_stream id x =
    λ (place : Place).
    if (place.stream == id) && nat_lt place.sub 3
    then Some (pair_at (sends_in Device place.direction) (sub_from place.sub) x)
    else None

-- the stream after a call of its port, if any
abbrev pub port_called : Option PlaceCall → StreamState → StreamState
port_called None x = x
port_called (Some c) x = stream_after_call (sends_in Device c.place.direction) (sub_from c.place.sub) c.call x

-- ---- one exchange

-- a reply; no bytes are no reply
abbrev pub judged_bytes : KmView → List ℕ → Judged
judged_bytes request [] = Bad
judged_bytes request (b ∷ bytes) = judged_reply request (object_reading (b ∷ bytes))

-- how the manager judges what is carried back, and the stream at the device after it
pub record Exchanged : Type 0 where
  pub judged : Judged
  pub device : StreamState

-- the request reached the device
abbrev pub came_to : ℕ → KmView → ℕ → ℕ → StreamState → Exchanged
came_to requester request id draw x =
    let call = call_of (object_spelling request) draw in
    let done = is_done (shown_stream id x) call in
    record {
      judged = judged_bytes request (reply_bytes requester (object_spelling request) done);
      device = port_called call x;
    }

abbrev pub exchange_if_lost : Lost → Exchanged → StreamState → Exchanged
exchange_if_lost Request came x = record { judged = NotCarried; device = x }
exchange_if_lost Reply came x = record { judged = NotCarried; device = came.device }

abbrev pub exchanged_unless_lost : Option Loss → ℕ → Exchanged → StreamState → Exchanged
exchanged_unless_lost None n came x = came
exchanged_unless_lost (Some loss) n came x = if loss.exchange == n then exchange_if_lost loss.lost came x else came

abbrev pub exchange_outcome : Option Loss → ℕ → NextExchange → StreamEnds → Exchanged
exchange_outcome loss requester a e =
    exchanged_unless_lost loss a.exchange
    (came_to requester (request_asked true a e.keeper) e.keeper.id a.draw e.device)
    e.device

-- the manager takes it, and calls the host's port
abbrev pub ends_after_exchange : NextExchange → Exchanged → StreamEnds → StreamEnds
ends_after_exchange a x e = record {
  host = all_called_at_side Host (taken_calls true a x.judged e.keeper.id) e.host;
  device = x.device;
  keeper = taken_stream true a x.judged e.keeper;
}

-- ---- one exchange after another

pub record WalkedEnds : Type 0 where
  pub outcome : StreamOutcome
  pub ends : StreamEnds

abbrev pub goes_on : StreamOutcome → StreamEnds → WalkedEnds → WalkedEnds
goes_on outcome.Next e rest = rest
goes_on o e rest = record { outcome = o; ends = e }

-- what the next exchange gives, if there is one
abbrev pub outcome_next : Option Loss → ℕ → StreamEnds → Option NextExchange → StreamOutcome
outcome_next loss requester e None = outcome.Next
outcome_next loss requester e (Some a) = outcome_of true a (exchange_outcome loss requester a e).judged

abbrev pub ends_next : Option Loss → ℕ → StreamEnds → Option NextExchange → StreamEnds
ends_next loss requester e None = e
ends_next loss requester e (Some a) = ends_after_exchange a (exchange_outcome loss requester a e) e

-- up to so many exchanges
abbrev pub walk_on : (more : ℕ) → Option Loss → ℕ → StreamEnds → WalkedEnds
walk_on zero loss requester e = record { outcome = outcome.Next; ends = e }
walk_on (suc more) loss requester e =
    goes_on (outcome_next loss requester e (asked_of_unfinished e.keeper.op))
    (ends_next loss requester e (asked_of_unfinished e.keeper.op))
    (walk_on more loss requester (ends_next loss requester e (asked_of_unfinished e.keeper.op)))

-- ---- an event

-- it begins, or goes on
abbrev pub begun_ends : Work → Pool → StreamEnds → StreamEnds
begun_ends w pool e = record {
  host = all_called_at_side Host (begun_calls true w pool e.keeper.id) e.host;
  device = e.device;
  keeper = begun_stream true w pool e.keeper;
}

-- a refusal, or what up to 13 exchanges give; an operation has 13 at most
abbrev pub walked_ends_unless : Option StreamRefusal → StreamEnds → WalkedEnds → WalkedEnds
walked_ends_unless (Some refusal) e walked = record { outcome = outcome.Refused refusal; ends = e }
walked_ends_unless None e walked = walked

abbrev pub event_walk : Operation → HostView → Pool → Option Loss → ℕ → StreamEnds → WalkedEnds
event_walk operation host pool loss requester e =
    let w = work_of operation e.keeper.op pool.draws in
    walked_ends_unless (refusal_of operation e.keeper.op host pool) e (walk_on 13 loss requester (begun_ends w pool e))
