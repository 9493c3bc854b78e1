-- An operation on an interface at one event: the manager begins it, and its exchanges are carried one after another.
-- The session may lose each of them.
use Rattle.std.specs.Prelude.{ℕ, zero, suc, ◌≡◌, ◌<◌, length, Option, Some, None}
use Rattle.script_events.specs.declared.event.Loss.{Loss}
use Rattle.script_events.specs.declared.event.Lost.{Lost}
use Rattle.script_events.specs.declared.event.Lost.TheVariants.{Request}
use Rattle.spec_keys.specs.Due.{lost_message}
use Rattle.interface_host.specs.declared.operation.InterfaceOperation.{InterfaceOperation}
use Rattle.interface_host.specs.declared.operation.InterfaceOperation.TheVariants as op
use Rattle.interface_host.specs.declared.operation.InterfaceOutcome.{InterfaceOutcome}
use Rattle.interface_host.specs.declared.operation.InterfaceOutcome.TheVariants as outcome
use Rattle.interface_host.specs.declared.operation.InterfaceRefusal.TheVariants.{SessionLost}
use Rattle.interface_host.specs.declared.step.Step.{Step}
use Rattle.interface_host.specs.declared.step.Step.TheVariants as step
use Rattle.interface_host.specs.Steps.{Read, first_step, next_step, exchange_number}
use Rattle.interface_host.specs.Judging.{JudgedAnswer, Lost as NotCarried}
use Rattle.interface_host.specs.Views.{HostTdi, step_request, taken_interface, interface_outcome}
use Rattle.interface_host.specs.Managers.{nothing_read, report_after_reply}
use Rattle.interface_ends.specs.declared.said.StreamSaid.{StreamSaid}
use Rattle.interface_ends.specs.Replies.{DeviceTdis, NamedTdi, next_nonce, interfaces_after_call}
use Rattle.interface_ends.specs.Exchanges.{judged_by_manager, device_after_step, judged_due, Meets}

-- ---- an exchange that may be lost

abbrev pub judgment_if_carried : Option Lost → JudgedAnswer → JudgedAnswer
judgment_if_carried None judged = judged
judgment_if_carried (Some lost) judged = NotCarried

-- a request that is lost does not reach the device
abbrev pub interfaces_after_request : Option Lost → DeviceTdis → DeviceTdis → DeviceTdis
interfaces_after_request (Some Request) before after = before
interfaces_after_request lost before after = after

-- ---- the walk

-- both ends, and the exchange that is next
pub record Walking : Type 0 where
  pub interface : HostTdi
  pub step : Step
  pub read : Read
  pub device : DeviceTdis

-- the outcome of the event, and both ends after it
pub record WalkedInterface : Type 0 where
  pub outcome : InterfaceOutcome
  pub interface : HostTdi
  pub read : Read
  pub device : DeviceTdis

abbrev pub walking_exchange : Walking → ℕ
walking_exchange w = exchange_number w.step w.read

abbrev pub walking_judged : ℕ → StreamSaid → Option Loss → Walking → JudgedAnswer
walking_judged portion said loss w = judgment_if_carried (lost_message loss (walking_exchange w))
    (judged_by_manager w.step portion (length w.read.bytes) w.interface w.device said)

abbrev pub walked_device : ℕ → StreamSaid → Option Loss → Walking → DeviceTdis
walked_device portion said loss w = interfaces_after_request (lost_message loss (walking_exchange w)) w.device
    (device_after_step w.step portion (length w.read.bytes) w.interface w.device said)

-- both ends after an exchange whose reply is judged so
abbrev pub walked_by : ℕ → Walking → JudgedAnswer → DeviceTdis → WalkedInterface
walked_by draws w judged device =
    let after = taken_interface w.step draws judged w.interface in
    record {
      outcome = interface_outcome w.step (walking_exchange w) judged after;
      interface = after;
      read = report_after_reply judged w.read;
      device = device;
    }

abbrev pub walked_once : ℕ → ℕ → StreamSaid → Option Loss → Walking → WalkedInterface
walked_once portion draws said loss w =
    walked_by draws w (walking_judged portion said loss w) (walked_device portion said loss w)

-- at the next exchange
abbrev pub walking_next : Step → WalkedInterface → Walking
walking_next s w = record { interface = w.interface; step = next_step s; read = w.read; device = w.device }

abbrev pub continued_walk : InterfaceOutcome → WalkedInterface → WalkedInterface → WalkedInterface
continued_walk outcome.Next now rest = rest
continued_walk o now rest = now

-- exchange after exchange, up to so many
abbrev pub interface_walk : (more : ℕ) → ℕ → ℕ → StreamSaid → Option Loss → Walking → WalkedInterface
interface_walk zero portion draws said loss w =
    record { outcome = outcome.Next; interface = w.interface; read = w.read; device = w.device }
interface_walk (suc more) portion draws said loss w =
    continued_walk (walked_once portion draws said loss w).outcome (walked_once portion draws said loss w)
    (interface_walk more portion draws said loss (walking_next w.step (walked_once portion draws said loss w)))

abbrev pub begun_walking : InterfaceOperation → HostTdi → DeviceTdis → Walking
begun_walking op i d = record { interface = i; step = first_step op; read = nothing_read; device = d }

-- ---- the stated step of an operation that is not refused at its beginning

-- an exchange with these ends, if this is lost of it
abbrev pub stated_once : ℕ → ℕ → StreamSaid → Option Lost → NamedTdi → Walking → WalkedInterface
stated_once portion draws said lost n w =
    walked_by draws w
    (judgment_if_carried lost
    (judged_due w.step portion (length w.read.bytes) w.interface n.tdi said (next_nonce w.device)))
    (interfaces_after_request lost w.device
    (interfaces_after_call w.device n (step_request w.step portion (length w.read.bytes) w.interface) said))

abbrev pub at_step : Step → HostTdi → DeviceTdis → Walking
at_step s i d = record { interface = i; step = s; read = nothing_read; device = d }

-- an operation of one exchange
abbrev pub stated_alone : Step → ℕ → ℕ → StreamSaid → Option Loss → HostTdi → DeviceTdis → NamedTdi → WalkedInterface
stated_alone s portion draws said loss i d n = stated_once portion draws said (lost_message loss 1) n (at_step s i d)

-- a loss before the exchange that changes something leaves both ends
abbrev pub lost_early : ℕ → HostTdi → DeviceTdis → WalkedInterface
lost_early exchange i d =
    record { outcome = outcome.Refused (SessionLost exchange); interface = i; read = nothing_read; device = d }

abbrev pub walked_unless_lost : Option Lost → WalkedInterface → WalkedInterface → WalkedInterface
walked_unless_lost None lost rest = rest
walked_unless_lost (Some l) lost rest = lost

-- GET_VERSION and GET_CAPABILITIES change nothing; LOCK_INTERFACE is exchange 3
abbrev pub stated_lock : ℕ → ℕ → StreamSaid → Option Loss → HostTdi → DeviceTdis → NamedTdi → WalkedInterface
stated_lock portion draws said loss i d n =
    walked_unless_lost (lost_message loss 1) (lost_early 1 i d)
    (walked_unless_lost (lost_message loss 2) (lost_early 2 i d)
    (stated_once portion draws said (lost_message loss 3) n (at_step step.Lock i d)))

abbrev pub operation_walk : InterfaceOperation → ℕ → ℕ → StreamSaid → Option Loss → HostTdi → DeviceTdis → NamedTdi
    → WalkedInterface
operation_walk op.Lock portion draws said loss i d n = stated_lock portion draws said loss i d n
operation_walk op.Report portion draws said loss i d n = stated_alone step.Report portion draws said loss i d n
operation_walk op.Start portion draws said loss i d n = stated_alone step.Start portion draws said loss i d n
operation_walk op.Halt portion draws said loss i d n = stated_alone step.Halt portion draws said loss i d n
operation_walk op.State portion draws said loss i d n = stated_alone step.State portion draws said loss i d n
operation_walk (op.Bind peer) portion draws said loss i d n = stated_alone (step.Bind peer) portion draws said loss i d
    n
operation_walk (op.Unbind peer) portion draws said loss i d n = stated_alone (step.Unbind peer) portion draws said loss
    i d n

-- ---- the law

-- no report; the stream that it names has an ID
abbrev pub IsShortOp : InterfaceOperation → Type 0
IsShortOp op.Report = ⊥
IsShortOp (op.Bind peer) = peer.id < 256
IsShortOp (op.Unbind peer) = peer.id < 256
IsShortOp op = Unit {0}

-- up to three exchanges
abbrev pub OperationsAreStated : Type 0
OperationsAreStated =
    (o : InterfaceOperation) (more portion draws : ℕ) (said : StreamSaid) (loss : Option Loss) (i : HostTdi)
    (d : DeviceTdis)
    (n : NamedTdi)
    → IsShortOp o → Meets portion i d n
    → interface_walk (suc (suc (suc more))) portion draws said loss (begun_walking o i d)
    ≡ operation_walk o portion draws said loss i d n
