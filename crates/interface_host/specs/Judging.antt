-- What the manager makes of a reply (TDISP section 11.3, in this profile).
use Rattle.std.specs.Prelude.{ℕ, ◌+◌, ◌≤◌, ◌==◌, Bool, ◌&&◌, nat_le, List, length, if◌then◌else◌, Some, None, Result}
use Rattle.std.specs.Prelude.{Ok, Err}
use Rattle.tdisp_codec.specs.declared.fault.TdispFault.{TdispFault}
use Rattle.tdisp_codec.specs.Replies.{Reply, reply_reading, Version, Capabilities, LockInterface, DeviceInterfaceReport}
use Rattle.tdisp_codec.specs.Replies.{DeviceInterfaceState, StartInterface, StopInterface, BindP2p, UnbindP2p, Error}
use Rattle.key_host.specs.declared.operation.ExchangeReply.{ExchangeReply}
use Rattle.key_host.specs.declared.operation.ExchangeReply.TheVariants as carried
use Rattle.interface_host.specs.declared.judge.Answer.{Answer}
use Rattle.interface_host.specs.declared.judge.Answer.TheVariants as answer
use Rattle.interface_host.specs.declared.step.Step.{Step}
use Rattle.interface_host.specs.declared.step.Step.TheVariants as step

-- what was carried in answer to a request: the expected reply with its value, a refusal with its code, nothing at all,
-- or anything else
pub data JudgedAnswer : Type 0 where
  Passed : JudgedAnswer
  Nonce : List ℕ → JudgedAnswer
  Portion : List ℕ → ℕ → JudgedAnswer
  State : ℕ → JudgedAnswer
  Refused : ℕ → JudgedAnswer
  Lost : JudgedAnswer
  Bad : JudgedAnswer

-- lent bytes are the bytes
abbrev pub answer_shown : Answer → JudgedAnswer
answer_shown answer.Passed = Passed
answer_shown (answer.Nonce nonce) = Nonce nonce
answer_shown (answer.Portion bytes remainder) = Portion bytes.now remainder
answer_shown (answer.State state) = State state
answer_shown (answer.Refused code) = Refused code
answer_shown answer.Lost = Lost
answer_shown answer.Bad = Bad

-- it gives back the request's function ID
abbrev pub if_same : ℕ → ℕ → JudgedAnswer → JudgedAnswer
if_same function back judged = if back == function then judged else Bad

-- any ERROR is a refusal, any other reply is none
abbrev pub error_judged : Reply → JudgedAnswer
error_judged (Error back code value) = Refused code
error_judged reply = Bad

abbrev pub version_in : ℕ → Reply → JudgedAnswer
version_in function (Version back versions) = if_same function back Passed
version_in function reply = error_judged reply

abbrev pub capabilities_in : ℕ → Reply → JudgedAnswer
capabilities_in function (Capabilities back device requests lock_flags width this all) = if_same function back Passed
capabilities_in function reply = error_judged reply

abbrev pub judged_nonce : ℕ → Reply → JudgedAnswer
judged_nonce function (LockInterface back nonce) = if_same function back (Nonce nonce)
judged_nonce function reply = error_judged reply

-- a portion has 1 to the asked number of bytes; with what was read before and what follows it, at most 1,140
abbrev pub is_portion : ℕ → ℕ → ℕ → ℕ → Bool
is_portion asked read size remainder = (nat_le 1 size && nat_le size asked) && nat_le (read + size + remainder) 1140

abbrev pub if_portion : Bool → List ℕ → ℕ → JudgedAnswer
if_portion fits bytes remainder = if fits then Portion bytes remainder else Bad

abbrev pub portion_in_reply : ℕ → ℕ → ℕ → Reply → JudgedAnswer
portion_in_reply asked read function (DeviceInterfaceReport back remainder bytes) =
    if_same function back (if_portion (is_portion asked read (length bytes) remainder) bytes remainder)
portion_in_reply asked read function reply = error_judged reply

abbrev pub start_in : ℕ → Reply → JudgedAnswer
start_in function (StartInterface back) = if_same function back Passed
start_in function reply = error_judged reply

abbrev pub halt_in : ℕ → Reply → JudgedAnswer
halt_in function (StopInterface back) = if_same function back Passed
halt_in function reply = error_judged reply

abbrev pub state_in : ℕ → Reply → JudgedAnswer
state_in function (DeviceInterfaceState back state) = if_same function back (State state)
state_in function reply = error_judged reply

abbrev pub bind_in : ℕ → Reply → JudgedAnswer
bind_in function (BindP2p back) = if_same function back Passed
bind_in function reply = error_judged reply

abbrev pub unbind_in : ℕ → Reply → JudgedAnswer
unbind_in function (UnbindP2p back) = if_same function back Passed
unbind_in function reply = error_judged reply

-- of an exchange with the interface of this function ID, if so many bytes of a portion are asked, and so many of the
-- report were read before
abbrev pub step_judged : Step → ℕ → ℕ → ℕ → Reply → JudgedAnswer
step_judged step.Version function asked read reply = version_in function reply
step_judged step.Capabilities function asked read reply = capabilities_in function reply
step_judged step.Lock function asked read reply = judged_nonce function reply
step_judged step.Report function asked read reply = portion_in_reply asked read function reply
step_judged step.Start function asked read reply = start_in function reply
step_judged step.Halt function asked read reply = halt_in function reply
step_judged step.State function asked read reply = state_in function reply
step_judged (step.Bind peer) function asked read reply = bind_in function reply
step_judged (step.Unbind peer) function asked read reply = unbind_in function reply

abbrev pub interface_reply_judged : Step → ℕ → ℕ → ℕ → Result Reply TdispFault → JudgedAnswer
interface_reply_judged s function asked read (Err fault) = Bad
interface_reply_judged s function asked read (Ok reply) = step_judged s function asked read reply

-- no reply of the device is a bad one
abbrev pub interface_judged : Step → ℕ → ℕ → ℕ → ExchangeReply → JudgedAnswer
interface_judged s function asked read carried.Lost = Lost
interface_judged s function asked read (carried.Reply None) = Bad
interface_judged s function asked read (carried.Reply (Some bytes)) = interface_reply_judged s function asked read
    (reply_reading bytes.now)

-- there is room for a portion, which is not empty
abbrev pub HasRoom : ℕ → JudgedAnswer → Type 0
HasRoom read (Portion bytes remainder) = (1 ≤ length bytes) × (read + length bytes ≤ 1140)
HasRoom read judged = Unit {0}
