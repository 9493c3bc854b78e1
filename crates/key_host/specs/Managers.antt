-- What the manager keeps of all streams, and what each call makes of it (this profile).
use Rattle.std.specs.Prelude.{ℕ, ◌+◌, Option, Some, None, List, [], ◌∷◌, ◌++◌, map, Result, Ok, Err, position}
use Rattle.std.specs.Prelude.{slice_get, slice_set}
use Rattle.ide_types.specs.declared.plan.LinkPlan.{LinkPlan}
use Rattle.ide_types.specs.declared.plan.HopPlan.{HopPlan}
use Rattle.ide_types.specs.declared.plan.PeerPlan.{PeerPlan}
use Rattle.ide_types.specs.declared.port.PortName.{PortName}
use Rattle.ide_types.specs.declared.stream.StreamPlan.{StreamPlan}
use Rattle.key_slots.specs.{Pool}
use Rattle.key_messages.specs.{PlaceCall}
use Rattle.event_verdicts.specs.declared.verdict.Operation.{Operation}
use Rattle.spec_keys.specs.Operations.{StreamStage, Work, work_of}
use Rattle.key_host.specs.declared.operation.ExchangeReply.{ExchangeReply}
use Rattle.key_host.specs.declared.operation.StreamOutcome.{StreamOutcome}
use Rattle.key_host.specs.declared.operation.StreamOutcome.TheVariants.{Next}
use Rattle.key_host.specs.declared.operation.StreamRefusal.{StreamRefusal}
use Rattle.key_host.specs.declared.stage.NextExchange.{NextExchange}
use Rattle.key_host.specs.Judging.{judged_exchange}
use Rattle.key_host.specs.Streams.{has_host, key_status, StreamView, new_stream, is_named, reset_stream}
use Rattle.key_host.specs.Streams.{asked_of_unfinished, request_asked, HostView, refusal_of, unless, begun_stream}
use Rattle.key_host.specs.Streams.{begun_pool, begun_calls, outcome_of, taken_stream, taken_calls}
use Rattle.ide_types.specs.declared.status.StreamStatus.{StreamStatus}
use Rattle.ide_types.specs.declared.status.StreamStatus.TheVariants as status

-- The streams of all lines, in the order of the lines and of each line's streams, and the place of the one whose
-- exchange is to be asked and taken.
pub record ManagerView : Type 0 where
  pub streams : List StreamView
  pub asking : Option ℕ

-- ---- make

abbrev pub new_streams : ℕ → List StreamPlan → List StreamView
new_streams line streams = map (λ s. new_stream line s.id) streams

-- of the links from this number on
abbrev pub streams_from : ℕ → List LinkPlan → List StreamView
streams_from line [] = []
streams_from line (l ∷ ls) = new_streams line l.streams ++ streams_from (line + 1) ls

-- of the hops of links, one segment of each, from this line on
abbrev pub new_hop : ℕ → Option HopPlan → List StreamView
new_hop line None = []
new_hop line (Some o) = new_stream line o.id ∷ []

abbrev pub hops_from : ℕ → List LinkPlan → List StreamView
hops_from line [] = []
hops_from line (l ∷ ls) = new_hop line l.hop ++ hops_from (line + 1) ls

-- of streams between devices, from this line on
abbrev pub peers_from : ℕ → List PeerPlan → List StreamView
peers_from line [] = []
peers_from line (p ∷ ps) = new_stream line p.id ∷ peers_from (line + 1) ps

abbrev pub new_manager : List LinkPlan → List PeerPlan → ManagerView
new_manager links peers = record {
  streams = ((streams_from 0 links ++ hops_from 8 links) ++ hops_from 16 links) ++ peers_from 24 peers;
  asking = None;
}

-- ---- streams by name

abbrev pub stream_place : ManagerView → ℕ → ℕ → Option ℕ
stream_place m line id = position (is_named line id) m.streams

-- a stream and its place
pub record Named : Type 0 where
  pub place : ℕ
  pub stream : StreamView

abbrev pub named_if_there : ℕ → Option StreamView → Option Named
named_if_there place None = None
named_if_there place (Some s) = Some (record { place = place; stream = s })

abbrev pub named_in : List StreamView → Option ℕ → Option Named
named_in streams None = None
named_in streams (Some place) = named_if_there place (slice_get streams place)

abbrev pub named_stream : ManagerView → ℕ → ℕ → Option Named
named_stream m line id = named_in m.streams (stream_place m line id)

abbrev pub op_named : Option Named → Option StreamStage
op_named None = None
op_named (Some n) = Some n.stream.op

-- by its operations alone
abbrev pub status_named : Option Named → StreamStatus
status_named None = status.Idle
status_named (Some n) = key_status n.stream.op

-- ---- the stream whose exchange is to be asked and taken

pub record Current : Type 0 where
  pub place : ℕ
  pub stream : StreamView
  pub asked : NextExchange

abbrev pub current_asked : ℕ → StreamView → Option NextExchange → Option Current
current_asked place s None = None
current_asked place s (Some a) = Some (record { place = place; stream = s; asked = a })

abbrev pub current_if_there : ℕ → Option StreamView → Option Current
current_if_there place None = None
current_if_there place (Some s) = current_asked place s (asked_of_unfinished s.op)

abbrev pub current_in_list : List StreamView → Option ℕ → Option Current
current_in_list streams None = None
current_in_list streams (Some place) = current_if_there place (slice_get streams place)

abbrev pub current : ManagerView → Option Current
current m = current_in_list m.streams m.asking

abbrev pub asked_now : Option Current → Option NextExchange
asked_now None = None
asked_now (Some c) = Some c.asked

-- ---- begin

abbrev pub begin_refusal : Operation → HostView → Pool → Named → Option StreamRefusal
begin_refusal operation host pool n = refusal_of operation n.stream.op host pool

abbrev pub begin_work : Operation → Pool → Named → Work
begin_work operation pool n = work_of operation n.stream.op pool.draws

-- the stream is asked if the operation begins or goes on; a refusal changes nothing
abbrev pub begun_manager : ManagerView → Operation → HostView → Pool → Named → ManagerView
begun_manager m operation host pool n =
    unless (begin_refusal operation host pool n) m
    (record {
      streams = slice_set m.streams n.place
          (begun_stream (has_host n.stream) (begin_work operation pool n) pool n.stream);
      asking = Some n.place;
    })

abbrev pub pool_begun : Operation → HostView → Pool → Named → Pool
pool_begun operation host pool n =
    unless (begin_refusal operation host pool n) pool (begun_pool (begin_work operation pool n) pool)

abbrev pub calls_begun : Operation → HostView → Pool → Named → List PlaceCall
calls_begun operation host pool n =
    unless (begin_refusal operation host pool n) []
    (begun_calls (has_host n.stream) (begin_work operation pool n) pool n.stream.id)

abbrev pub asking_begun : Option ℕ → ℕ → Result (Unit {0}) StreamRefusal → Option ℕ
asking_begun asking place (Ok done) = Some place
asking_begun asking place (Err refusal) = asking

-- ---- take

-- an operation that goes on is asked again
abbrev pub asking_after : ℕ → StreamOutcome → Option ℕ
asking_after place Next = Some place
asking_after place outcome = None

abbrev pub outcome_now : Current → ExchangeReply → StreamOutcome
outcome_now c carried = outcome_of (has_host c.stream) c.asked
    (judged_exchange (request_asked (has_host c.stream) c.asked c.stream) carried)

abbrev pub manager_after_reply : ManagerView → Current → ExchangeReply → ManagerView
manager_after_reply m c carried = record {
  streams = slice_set m.streams c.place
      (taken_stream (has_host c.stream) c.asked
      (judged_exchange (request_asked (has_host c.stream) c.asked c.stream) carried)
      c.stream);
  asking = asking_after c.place (outcome_now c carried);
}

abbrev pub calls_taken : Current → ExchangeReply → List PlaceCall
calls_taken c carried = taken_calls (has_host c.stream) c.asked
    (judged_exchange (request_asked (has_host c.stream) c.asked c.stream) carried)
    c.stream.id

-- ---- reset

-- the streams of lines that are cut have no keys on their way, and nothing is asked
abbrev pub reset_manager : List PortName → ManagerView → ManagerView
reset_manager ends m = record { streams = map (reset_stream ends) m.streams; asking = None }
