-- The verdicts of operations on interfaces.
use Rattle.std.specs.Prelude.{ℕ, List, [], Option, Some, None, IsSome}
use Rattle.std.specs.Option.{option_map}
use Rattle.ide_types.specs.declared.verdict.InterfaceVerdict.TheVariants as iv
use Rattle.script_events.specs.declared.event.Loss.{Loss}
use Rattle.script_events.specs.declared.event.InterfaceEvent.{InterfaceEvent}
use Rattle.script_events.specs.declared.event.InterfaceEvent.TheVariants as ie
use Rattle.event_verdicts.specs.declared.verdict.Verdict.{Verdict}
use Rattle.event_verdicts.specs.declared.verdict.Verdict.TheVariants as v
use Rattle.spec_keys.specs.Due.{lost_message, lost_at}
use Rattle.interface_host.specs.declared.operation.InterfaceOperation.{InterfaceOperation}
use Rattle.interface_host.specs.declared.operation.InterfaceOperation.TheVariants as op
use Rattle.interface_host.specs.declared.operation.InterfaceOutcome.{InterfaceOutcome}
use Rattle.interface_host.specs.declared.operation.InterfaceOutcome.TheVariants as outcome
use Rattle.interface_host.specs.declared.operation.InterfaceResult.{InterfaceResult}
use Rattle.interface_host.specs.declared.operation.InterfaceResult.TheVariants as shown
use Rattle.interface_host.specs.declared.operation.InterfaceRefusal.{InterfaceRefusal}
use Rattle.interface_host.specs.declared.operation.InterfaceRefusal.TheVariants as refusal
use Rattle.interface_ends.specs.Keepers.{Ended}

abbrev pub verdict_of_shown : ℕ → List ℕ → InterfaceResult → Verdict
verdict_of_shown i report (shown.Nonce nonce) = v.Interface (iv.Locked i nonce)
verdict_of_shown i report shown.Report = v.Interface (iv.Reported i report)
verdict_of_shown i report (shown.Draw draw) = v.Interface (iv.Started i draw)
verdict_of_shown i report (shown.Needs needs) = v.Interface (iv.Halted i needs)
verdict_of_shown i report (shown.State state) = v.Interface (iv.State i state)
verdict_of_shown i report (shown.Bound line) = v.Interface (iv.Bound i line)
verdict_of_shown i report (shown.Unbound line) = v.Interface (iv.Unbound i line)

-- A lost exchange has the verdict of the message that was lost there. If none was, it has no verdict, nor has a bad
-- reply.
abbrev pub refused_as : Option Loss → InterfaceRefusal → Option Verdict
refused_as loss (refusal.WrongState view) = Some (v.Interface (iv.RefusedWrongState view))
refused_as loss refusal.NotReported = Some (v.Interface iv.RefusedNotReported)
refused_as loss (refusal.NotSecure status) = Some (v.RefusedNotSecure status)
refused_as loss (refusal.RefreshFirst draw needed) = Some (v.Interface (iv.RefusedRefreshFirst draw needed))
refused_as loss (refusal.SessionLost exchange) = option_map (λ lost. lost_at lost exchange) (lost_message loss exchange)
refused_as loss (refusal.DeviceRefused exchange code) = Some (v.RefusedDevice exchange code)
refused_as loss (refusal.BadReply exchange) = None

-- the verdict on the interface of this number; a report that was read is this one; an unfinished operation has none
abbrev pub outcome_verdict : ℕ → Option Loss → List ℕ → InterfaceOutcome → Option Verdict
outcome_verdict i loss report outcome.Next = None
outcome_verdict i loss report (outcome.Done s) = Some (verdict_of_shown i report s)
outcome_verdict i loss report (outcome.Refused r) = refused_as loss r

-- No reply was bad, and no exchange was lost but one whose message is lost.
abbrev pub NoBadInterfaceReply : Option Loss → InterfaceOutcome → Type 0
NoBadInterfaceReply loss (outcome.Refused (refusal.BadReply n)) = ⊥
NoBadInterfaceReply loss (outcome.Refused (refusal.SessionLost n)) = IsSome (lost_message loss n)
NoBadInterfaceReply loss o = Unit {0}

-- the bytes that a report is shown by
abbrev pub report_of : InterfaceOperation → Ended → List ℕ
report_of op.Report e = e.manager.read.bytes
report_of o e = []

-- the verdict of an operation that ended so
abbrev pub ended_verdict : ℕ → InterfaceOperation → Option Loss → Ended → Option Verdict
ended_verdict i o loss e = outcome_verdict i loss (report_of o e) e.outcome

-- the event of an operation
abbrev pub op_event : InterfaceOperation → ℕ → Option Loss → InterfaceEvent
op_event op.Lock i loss = ie.Lock i loss
op_event op.Report i loss = ie.Report i loss
op_event op.Start i loss = ie.Start i loss
op_event op.Halt i loss = ie.Halt i loss
op_event op.State i loss = ie.State i loss
op_event (op.Bind peer) i loss = ie.Bind i peer.line peer.id loss
op_event (op.Unbind peer) i loss = ie.Unbind i peer.line peer.id loss
