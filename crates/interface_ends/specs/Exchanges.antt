-- One exchange of the manager with the device.
use Rattle.std.specs.Prelude.{ℕ, ◌≡◌, ◌≢◌, ◌<◌, ◌≤◌, ◌^◌, List, length, All, Option, Some, IfSome, Result, Ok, Err}
use Rattle.tdisp_codec.specs.Requests.{request_spelling}
use Rattle.tdisp_codec.specs.Replies.{reply_reading}
use Rattle.ide_types.specs.declared.interface.InterfacePlan.{InterfacePlan}
use Rattle.ide_types.specs.Fits.{AreBytes}
use Rattle.interface_state.specs.declared.states.Lock.{Lock}
use Rattle.interface_state.specs.Held.{FitsTdi}
use Rattle.interface_state.specs.Kept.{kept_report}
use Rattle.interface_state.specs.Machine.{DeviceTdi, lock_of, state_code, lock_answer, portion_answer, start_answer}
use Rattle.interface_state.specs.Machine.{bind_answer, unbind_answer}
use Rattle.interface_host.specs.declared.step.Step.{Step}
use Rattle.interface_host.specs.declared.step.Step.TheVariants as step
use Rattle.interface_host.specs.Judging.{JudgedAnswer, Passed, Nonce, Portion, State, Refused, Bad}
use Rattle.interface_host.specs.Judging.{interface_reply_judged}
use Rattle.interface_host.specs.Views.{HostTdi, nonce_of, step_request}
use Rattle.interface_ends.specs.declared.said.StreamSaid.{StreamSaid}
use Rattle.interface_ends.specs.Replies.{DeviceTdis, NamedTdi, named_interface, next_nonce, interfaces_after_call}
use Rattle.interface_ends.specs.Replies.{interfaces_after_answer, answer_bytes}

-- ---- what is carried

-- the request's bytes; `portion` is asked of a report, and `read` bytes were read before
abbrev pub asked_bytes : Step → ℕ → ℕ → HostTdi → List ℕ
asked_bytes s portion read i = request_spelling (step_request s portion read i)

-- the manager's judgement of the device's reply
abbrev pub judged_by_manager : Step → ℕ → ℕ → HostTdi → DeviceTdis → StreamSaid → JudgedAnswer
judged_by_manager s portion read i d said =
    interface_reply_judged s i.requester portion read
    (reply_reading (answer_bytes d (asked_bytes s portion read i) said))

-- the device after the request
abbrev pub device_after_step : Step → ℕ → ℕ → HostTdi → DeviceTdis → StreamSaid → DeviceTdis
device_after_step s portion read i d said = interfaces_after_answer d (asked_bytes s portion read i) said

-- ---- what is due

abbrev pub nonce_due : Result (List ℕ) ℕ → JudgedAnswer
nonce_due (Ok nonce) = Nonce nonce
nonce_due (Err code) = Refused code

abbrev pub portion_due : Result (List ℕ × ℕ) ℕ → JudgedAnswer
portion_due (Ok portion) = Portion portion.0 portion.1
portion_due (Err code) = Refused code

abbrev pub start_judged : Result (Unit {0}) ℕ → JudgedAnswer
start_judged (Ok done) = Passed
start_judged (Err code) = Refused code

abbrev pub bind_judged : Result ℕ ℕ → JudgedAnswer
bind_judged (Ok draw) = Passed
bind_judged (Err code) = Refused code

abbrev pub unbind_judged : Result (Unit {0}) ℕ → JudgedAnswer
unbind_judged (Ok done) = Passed
unbind_judged (Err code) = Refused code

-- by the device's interface alone; `said` is what the device says of the stream that a request names, and `drawn` is
-- the device's next nonce
abbrev pub judged_due : Step → ℕ → ℕ → HostTdi → DeviceTdi → StreamSaid → Option (List ℕ) → JudgedAnswer
judged_due step.Version portion read i tdi said drawn = Passed
judged_due step.Capabilities portion read i tdi said drawn = Passed
judged_due step.Lock portion read i tdi said drawn = nonce_due (lock_answer tdi i.flags i.offset said.secure drawn)
judged_due step.Report portion read i tdi said drawn = portion_due (portion_answer tdi read portion)
judged_due step.Start portion read i tdi said drawn = start_judged (start_answer tdi.state (nonce_of i.seen))
judged_due step.Halt portion read i tdi said drawn = Passed
judged_due step.State portion read i tdi said drawn = State (state_code tdi.state)
judged_due (step.Bind peer) portion read i tdi said drawn = bind_judged (bind_answer tdi peer.id said.live)
judged_due (step.Unbind peer) portion read i tdi said drawn = unbind_judged (unbind_answer tdi peer.id)

-- ---- both ends

abbrev pub IsNonce : List ℕ → Type 0
IsNonce nonce = (length nonce ≡ 32) × All (λ b. b < 256) nonce

-- 1 to 1,140 bytes
pub record IsReport (report : List ℕ) : Type 0 where
  pub some : 1 ≤ length report
  pub short : length report ≤ 1140
  pub bytes : All (λ b. b < 256) report

-- a lock keeps one
abbrev pub ReportsFit : Type 0
ReportsFit = (plan : InterfacePlan) (lock : Lock) → FitsTdi plan → AreBytes plan.info → IsReport (kept_report plan lock)

-- The manager's interface has the widths of its fields; the device has it, and what it gives are nonces and a report.
pub record Meets (portion : ℕ) (i : HostTdi) (d : DeviceTdis) (n : NamedTdi) : Type 0 where
  pub requester : i.requester < 2 ^ 16
  pub flags : i.flags < 2 ^ 16
  pub stream : i.stream < 256
  pub offset : i.offset < 2 ^ 64
  pub nonce : IsNonce (nonce_of i.seen)
  pub portion_least : 1 ≤ portion
  pub portion_most : portion < 2 ^ 16
  pub named_is : named_interface d i.requester ≡ Some n
  pub drawn : IfSome (next_nonce d) IsNonce
  pub report : IfSome (lock_of n.tdi.state) (λ lock. IsReport (kept_report n.tdi.plan lock))

-- the stream that a step names has an ID
abbrev pub FitsStep : Step → Type 0
FitsStep (step.Bind peer) = peer.id < 256
FitsStep (step.Unbind peer) = peer.id < 256
FitsStep s = Unit {0}

-- ---- the law

pub record ExchangeIsDue (s : Step) (portion read : ℕ) (i : HostTdi) (d : DeviceTdis) (n : NamedTdi)
    (said : StreamSaid) :
    Type
    0 where
  -- the judgement of the reply
  pub judged : judged_by_manager s portion read i d said ≡ judged_due s portion read i n.tdi said (next_nonce d)
  -- what the request makes of the device
  pub device : device_after_step s portion read i d said ≡ interfaces_after_call d n (step_request s portion read i)
      said

abbrev pub ExchangesAreDue : Type 0
ExchangesAreDue = (s : Step) (portion read : ℕ) (i : HostTdi) (d : DeviceTdis) (n : NamedTdi) (said : StreamSaid)
    → read ≤ 1140 → FitsStep s → Meets portion i d n → ExchangeIsDue s portion read i d n said

abbrev pub RepliesAreNeverBad : Type 0
RepliesAreNeverBad = (s : Step) (portion read : ℕ) (i : HostTdi) (d : DeviceTdis) (n : NamedTdi) (said : StreamSaid)
    → read ≤ 1140 → FitsStep s → Meets portion i d n → judged_by_manager s portion read i d said ≢ Bad
