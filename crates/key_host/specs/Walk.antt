-- An operation at one event: it begins or goes on, and its exchanges are taken one after another.
use Rattle.std.specs.Prelude.{ℕ, ◌≡◌, ◌+◌, ◌-◌, ◌≤◌, zero, suc, Bool, Option, Some, None, IsSome}
use Rattle.std.specs.Option.{option_map}
use Rattle.ide_types.specs.Lines.{line_kind}
use Rattle.ide_types.specs.declared.sub.SubKind.{SubKind}
use Rattle.ide_types.specs.declared.status.StreamStatus.{StreamStatus}
use Rattle.script_events.specs.declared.event.Loss.{Loss}
use Rattle.script_events.specs.declared.event.Lost.{Lost as Message}
use Rattle.event_verdicts.specs.declared.verdict.Operation.{Operation}
use Rattle.event_verdicts.specs.declared.verdict.Operation.TheVariants as op
use Rattle.event_verdicts.specs.declared.verdict.Verdict.{Verdict}
use Rattle.event_verdicts.specs.declared.verdict.Verdict.TheVariants as v
use Rattle.key_slots.specs.{Pool, draws_in}
use Rattle.spec_keys.specs.Places.{KeyPlan}
use Rattle.spec_keys.specs.Operations.{StreamStage, Work, Reach, work_of, last_exchange_of, reach_of, op_after_reach}
use Rattle.spec_keys.specs.Due.{PortView, refusal_at, lost_message, lost_at, establish_on, refresh_on, stop_on}
use Rattle.spec_keys.specs.Due.{is_live_sender}
use Rattle.key_host.specs.declared.judge.Judged.{Judged}
use Rattle.key_host.specs.declared.judge.Judged.TheVariants.{Expected, Lost, Refused}
use Rattle.key_host.specs.declared.operation.StreamOutcome.{StreamOutcome}
use Rattle.key_host.specs.declared.operation.StreamOutcome.TheVariants as outcome
use Rattle.key_host.specs.declared.operation.StreamRefusal.{StreamRefusal}
use Rattle.key_host.specs.declared.operation.StreamRefusal.TheVariants.{NotIdle, NotSecure, PoolEmpty, SessionLost}
use Rattle.key_host.specs.declared.operation.StreamRefusal.TheVariants.{DeviceRefused, BadReply, Busy, UnitOpen}
use Rattle.key_host.specs.declared.operation.StreamResult.{StreamResult}
use Rattle.key_host.specs.declared.operation.StreamResult.TheVariants as shown
use Rattle.key_host.specs.declared.stage.NextExchange.{NextExchange}
use Rattle.key_host.specs.Streams.{StreamView, has_host, HostView, asked_of_unfinished, is_set, refusal_of}
use Rattle.key_host.specs.Streams.{begun_stream, outcome_of, taken_stream}

-- ---- the walk

-- what is carried at an exchange: a loss comes before a refusal by the device
abbrev pub exchange_judged : Option Message → Option ℕ → Judged
exchange_judged (Some lost) status = Lost
exchange_judged None (Some status) = Refused status
exchange_judged None None = Expected

-- at each exchange, of which the device refuses some with their status
abbrev pub answers : Option Loss → (ℕ → Option ℕ) → ℕ → Judged
answers loss refusal n = exchange_judged (lost_message loss n) (refusal n)

-- the outcome of an event, and the stream after it
pub record Walked : Type 0 where
  pub outcome : StreamOutcome
  pub stream : StreamView

abbrev pub outcome_if_asked : (hosted : Bool) → Option NextExchange → (ℕ → Judged) → StreamOutcome
outcome_if_asked hosted None carried = outcome.Next
outcome_if_asked hosted (Some a) carried = outcome_of hosted a (carried a.exchange)

abbrev pub stream_after : (hosted : Bool) → Option NextExchange → (ℕ → Judged) → StreamView → StreamView
stream_after hosted None carried s = s
stream_after hosted (Some a) carried s = taken_stream hosted a (carried a.exchange) s

abbrev pub walk_after_outcome : StreamOutcome → StreamView → Walked → Walked
walk_after_outcome outcome.Next s rest = rest
walk_after_outcome o s rest = record { outcome = o; stream = s }

-- `take` after `take`, up to so many
abbrev pub walk : (hosted : Bool) (more : ℕ) → (ℕ → Judged) → StreamView → Walked
walk hosted zero carried s = record { outcome = outcome.Next; stream = s }
walk hosted (suc more) carried s =
    walk_after_outcome (outcome_if_asked hosted (asked_of_unfinished s.op) carried)
    (stream_after hosted (asked_of_unfinished s.op) carried s)
    (walk hosted more carried (stream_after hosted (asked_of_unfinished s.op) carried s))

-- `begin`, and then the walk
abbrev pub walked_unless : Option StreamRefusal → StreamView → Walked → Walked
walked_unless (Some refusal) s rest = record { outcome = outcome.Refused refusal; stream = s }
walked_unless None s rest = rest

abbrev pub walk_result : (hosted : Bool) → Operation → HostView → Pool → (ℕ → Judged) → StreamView → Walked
walk_result hosted operation host pool carried s =
    let w = work_of operation s.op pool.draws in
    walked_unless (refusal_of operation s.op host pool) s
    (walk hosted (last_exchange_of hosted operation + 1 - w.first) carried (begun_stream hosted w pool s))

-- ---- the verdict that it is

abbrev pub shown_verdict : Operation → ℕ → ℕ → StreamResult → Option Verdict
shown_verdict op.Establish line stream (shown.Draw j) = Some (v.Established line stream j)
shown_verdict op.Refresh line stream (shown.Draw j) = Some (v.Refreshed line stream j)
shown_verdict op.Stop line stream shown.Stopped = Some (v.Stopped line stream)
shown_verdict o line stream s = None

-- of a stream on a line: a lost exchange has the verdict of the message that was lost there. If none was, it has no
-- verdict, nor has a bad reply.
abbrev pub key_refusal_verdict : ℕ → Option Loss → StreamRefusal → Option Verdict
key_refusal_verdict line loss NotIdle = Some v.RefusedNotIdle
key_refusal_verdict line loss (NotSecure s) = Some (v.RefusedNotSecure s)
key_refusal_verdict line loss (PoolEmpty draws) = Some (v.RefusedPoolEmpty draws)
key_refusal_verdict line loss (SessionLost n) = option_map (λ lost. lost_at lost n) (lost_message loss n)
key_refusal_verdict line loss (DeviceRefused n status) = Some (v.RefusedDevice n status)
key_refusal_verdict line loss (BadReply n) = None
key_refusal_verdict line loss (Busy o) = Some (v.RefusedBusy (line_kind line) o)
key_refusal_verdict line loss (UnitOpen u) = Some (v.RefusedUnitOpen u)

-- nor has an operation that is not at its end
abbrev pub verdict_of : Operation → ℕ → ℕ → Option Loss → StreamOutcome → Option Verdict
verdict_of o line stream loss outcome.Next = None
verdict_of o line stream loss (outcome.Done s) = shown_verdict o line stream s
verdict_of o line stream loss (outcome.Refused refusal) = key_refusal_verdict line loss refusal

-- No reply was bad, and no exchange was lost but one whose message is lost.
abbrev pub NoBadReply : Option Loss → StreamOutcome → Type 0
NoBadReply loss (outcome.Refused (BadReply n)) = ⊥
NoBadReply loss (outcome.Refused (SessionLost n)) = IsSome (lost_message loss n)
NoBadReply loss o = Unit {0}

-- ---- the law

-- an unfinished operation is at one of its exchanges
abbrev pub IsAsked : (hosted : Bool) → Option NextExchange → Type 0
IsAsked hosted None = Unit {0}
IsAsked hosted (Some a) = (1 ≤ a.exchange) × (a.exchange ≤ last_exchange_of hosted a.operation)

-- what the host's port and the pool show is what the definitions read of them
pub record HostSeesPorts (plan : KeyPlan) (ports : PortView) (line stream : ℕ) (status : StreamStatus)
    (host : HostView) (pool : Pool) : Type 0 where
  pub pool_is : plan.pool ≡ draws_in pool.keys
  pub status_is : host.status ≡ Some status
  pub live_is : (set : Bool) (u : SubKind) → is_set set (host.live u) ≡ is_live_sender ports line stream set u

abbrev pub due_on : Operation → KeyPlan → StreamStage → ℕ → PortView → StreamStatus → ℕ → ℕ → Option Loss → Verdict
due_on op.Establish plan o next ports status line stream loss = establish_on plan o next ports line stream loss
due_on op.Refresh plan o next ports status line stream loss = refresh_on plan o next ports status line stream loss
due_on op.Stop plan o next ports status line stream loss = stop_on o next ports line stream loss

-- the operations of the stream after its verdict
abbrev pub op_if_reached : (hosted : Bool) → StreamStage → Work → Option Reach → StreamStage
op_if_reached hosted o w None = o
op_if_reached hosted o w (Some reached) = op_after_reach hosted w reached

-- If each exchange is lost or refused as the definitions say, an event gives the verdict that is due, and leaves the
-- operations as the verdict says.
pub record WalkIsDue (hosted : Bool) (operation : Operation) (plan : KeyPlan) (ports : PortView)
    (status : StreamStatus) (host : HostView) (pool : Pool) (loss : Option Loss) (s : StreamView) : Type 0 where
  pub verdict_is : verdict_of operation s.line s.id loss
      (walk_result hosted operation host pool (answers loss (refusal_at ports operation
      (work_of operation s.op pool.draws).set s.line s.id)) s).outcome
      ≡ Some (due_on operation plan s.op pool.draws ports status s.line s.id loss)
  pub op_is : (walk_result hosted operation host pool
      (answers loss (refusal_at ports operation (work_of operation s.op pool.draws).set s.line s.id)) s).stream.op
      ≡ op_if_reached hosted s.op (work_of operation s.op pool.draws)
      (reach_of operation (due_on operation plan s.op pool.draws ports status s.line s.id loss))

abbrev pub WalksAreDue : Type 0
WalksAreDue =
    (operation : Operation) (plan : KeyPlan) (ports : PortView) (status : StreamStatus) (host : HostView) (pool : Pool)
    (loss : Option Loss) (s : StreamView)
    → IsAsked (has_host s) (asked_of_unfinished s.op) → HostSeesPorts plan ports s.line s.id status host pool
    → WalkIsDue (has_host s) operation plan ports status host pool loss s
