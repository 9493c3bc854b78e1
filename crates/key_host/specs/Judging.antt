-- What the manager makes of a reply (this profile).
use Rattle.std.specs.Prelude.{ℕ, ◌==◌, Bool, false, ◌&&◌, if◌then◌else◌, Some, None, Result, Ok, Err}
use Rattle.key_messages.specs.declared.object.KmView.{KmView}
use Rattle.key_messages.specs.declared.object.KmView.TheVariants.{Query, QueryResp, KeyProg, KpAck, SetGo, SetStop}
use Rattle.key_messages.specs.declared.object.KmView.TheVariants.{GoStopAck}
use Rattle.key_messages.specs.declared.object.KmFault.{KmFault}
use Rattle.key_messages.specs.{object_reading}
use Rattle.key_host.specs.declared.judge.Judged.{Judged}
use Rattle.key_host.specs.declared.judge.Judged.TheVariants.{Expected, Lost, Refused, Bad}
use Rattle.key_host.specs.declared.operation.ExchangeReply.{ExchangeReply}
use Rattle.key_host.specs.declared.operation.ExchangeReply.TheVariants as carried

abbrev pub gives_back : ℕ → ℕ → ℕ → ℕ → ℕ → ℕ → Bool
gives_back stream selector port s x p = ((s == stream) && (x == selector)) && (p == port)

abbrev pub is_description : ℕ → KmView → Bool
is_description port (QueryResp p device_function bus segment highest) = p == port
is_description port reply = false

abbrev pub is_key_acknowledgement : ℕ → ℕ → ℕ → KmView → Bool
is_key_acknowledgement stream selector port (KpAck s status x p) = gives_back stream selector port s x p
    && (status == 0)
is_key_acknowledgement stream selector port reply = false

abbrev pub is_acknowledgement : ℕ → ℕ → ℕ → KmView → Bool
is_acknowledgement stream selector port (GoStopAck s x p) = gives_back stream selector port s x p
is_acknowledgement stream selector port reply = false

-- the reply that is paired with the request, which gives back its stream, selector and port index; of a KEY_PROG with
-- status 0
abbrev pub is_expected : KmView → KmView → Bool
is_expected (Query port) reply = is_description port reply
is_expected (KeyProg stream selector port key counter) reply = is_key_acknowledgement stream selector port reply
is_expected (SetGo stream selector port) reply = is_acknowledgement stream selector port reply
is_expected (SetStop stream selector port) reply = is_acknowledgement stream selector port reply
is_expected request reply = false

-- a KP_ACK with another status than 0 is a refusal, any other reply is none
abbrev pub judged_refusal : KmView → Judged
judged_refusal (KpAck s status x p) = if status == 0 then Bad else Refused status
judged_refusal reply = Bad

abbrev pub judged_reply : KmView → Result KmView KmFault → Judged
judged_reply request (Err fault) = Bad
judged_reply request (Ok reply) = if is_expected request reply then Expected else judged_refusal reply

-- no reply of the device is a bad one
abbrev pub judged_exchange : KmView → ExchangeReply → Judged
judged_exchange request carried.Lost = Lost
judged_exchange request (carried.Reply None) = Bad
judged_exchange request (carried.Reply (Some bytes)) = judged_reply request (object_reading bytes.now)
