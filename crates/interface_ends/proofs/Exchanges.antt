-- One exchange of the manager with the device.
use Rattle.std.proofs.Common.{◌≡◌, ◌≢◌, ℕ, ◌≤◌, List, length, Option, Some, Result, Ok, Err, refl, ap, sym, ◌∙◌}
use Rattle.std.proofs.Common.{arith, length-append}
use Rattle.spec_keys.proofs.Tests.{lt-false}
use Rattle.tdisp_codec.specs.declared.request.RequestView.{RequestView}
use Rattle.tdisp_codec.specs.Messages.{message_spelling}
use Rattle.tdisp_codec.specs.Requests.{request_function, request_type, request_spelling, FitsRequest, request_reading}
use Rattle.tdisp_codec.specs.Replies.{Reply, reply_spelling, FitsReply, reply_reading}
use Rattle.interface_state.specs.Machine.{DeviceTdi}
use Rattle.interface_host.specs.declared.step.Step.{Step}
use Rattle.interface_host.specs.declared.step.Step.TheVariants as step
use Rattle.interface_host.specs.Judging.{Bad, interface_reply_judged}
use Rattle.interface_host.specs.Views.{HostTdi, step_request}
use Rattle.interface_ends.specs.declared.said.StreamSaid.{StreamSaid}
use Rattle.interface_ends.specs.Replies.{DeviceTdis, NamedTdi, named_interface, next_nonce, interfaces_after_call}
use Rattle.interface_ends.specs.Replies.{interfaces_asked_by, named_reply, request_checked, interfaces_after_answer}
use Rattle.interface_ends.specs.Replies.{device_reply, answer_bytes, interface_reply, function_or_none, interfaces_by}
use Rattle.interface_ends.specs.Replies.{interface_reply_from_request}
use Rattle.interface_ends.specs.Exchanges.{judged_due, nonce_due, portion_due, start_judged, bind_judged, unbind_judged}
use Rattle.interface_ends.specs.Exchanges.{ExchangesAreDue, RepliesAreNeverBad}
use Rattle.interface_ends.proofs.Widths.{function_of, request_fits, reply_fits}
use Rattle.interface_ends.proofs.Due.{reply_due}

abbrev pub RequestsRead : Type 0
RequestsRead = (request : RequestView) → FitsRequest request → request_reading (request_spelling request) ≡ Ok request

abbrev pub RepliesRead : Type 0
RepliesRead = (reply : Reply) → FitsReply reply → reply_reading (reply_spelling reply) ≡ Ok reply

-- a message has a header
long : (type function : ℕ) (body : List ℕ) → 17 ≤ length (message_spelling type function body)
long type function body = grind (arith, length-append)

asked : RequestsRead → (r : RequestView) → FitsRequest r → request_checked (request_spelling r) ≡ Ok r
asked reads r fits = rw
    (lt-false (length (request_spelling r)) 17 (long (request_type r) (request_function r) _), reads r fits) refl

device : (d : DeviceTdis) (n : NamedTdi) (r : RequestView) (bytes : List ℕ) (said : StreamSaid)
    → request_checked bytes ≡ Ok r → named_interface d (request_function r) ≡ Some n
    → interfaces_after_answer d bytes said ≡ interfaces_after_call d n r said
device d n r bytes said is found = ap (interfaces_by d said) is ∙ ap (interfaces_asked_by d r said) found

replied : (d : DeviceTdis) (n : NamedTdi) (r : RequestView) (bytes : List ℕ) (said : StreamSaid)
    → request_checked bytes ≡ Ok r → named_interface d (request_function r) ≡ Some n
    → device_reply d bytes said ≡ interface_reply n.tdi r said (next_nonce d)
replied d n r bytes said is found = ap (interface_reply_from_request d said (function_or_none bytes)) is ∙ ap
    (named_reply d r said)
    found

pub exchange_due : RequestsRead → RepliesRead → ExchangesAreDue
exchange_due requests replies s portion read i d n said short id m =
    let r = step_request s portion read i in
    let is : request_checked (request_spelling r) ≡ Ok r = asked requests r
    (request_fits s portion read i d n short id m) in
    let found : named_interface d (request_function r) ≡ Some n = ap (named_interface d) (function_of s portion read i)
    ∙
    m.named_is in
    let reply : device_reply d (request_spelling r) said ≡ interface_reply n.tdi r said (next_nonce d) = replied d n r
    (request_spelling r) said is found in
    let back : reply_reading (answer_bytes d (request_spelling r) said)
    ≡ Ok (interface_reply n.tdi r said (next_nonce d))
    = ap (λ x. reply_reading (reply_spelling x)) reply ∙ replies _ (reply_fits s portion read i d n said m) in
    record {
      judged = ap (interface_reply_judged s i.requester portion read) back ∙ reply_due s portion read i d n said m;
      device = device d n r (request_spelling r) said is found;
    }

-- ---- what is due is no bad reply

nonce_good : (answer : Result (List ℕ) ℕ) → nonce_due answer ≢ Bad
nonce_good (Ok nonce) e = absurd cc
nonce_good (Err code) e = absurd cc

portion_good : (answer : Result (List ℕ × ℕ) ℕ) → portion_due answer ≢ Bad
portion_good (Ok portion) e = absurd cc
portion_good (Err code) e = absurd cc

start_good : (answer : Result (Unit {0}) ℕ) → start_judged answer ≢ Bad
start_good (Ok done) e = absurd cc
start_good (Err code) e = absurd cc

bind_good : (answer : Result ℕ ℕ) → bind_judged answer ≢ Bad
bind_good (Ok draw) e = absurd cc
bind_good (Err code) e = absurd cc

unbind_good : (answer : Result (Unit {0}) ℕ) → unbind_judged answer ≢ Bad
unbind_good (Ok done) e = absurd cc
unbind_good (Err code) e = absurd cc

due_good : (s : Step) (portion read : ℕ) (i : HostTdi) (tdi : DeviceTdi) (said : StreamSaid) (drawn : Option (List ℕ))
    → judged_due s portion read i tdi said drawn ≢ Bad
due_good step.Version portion read i tdi said drawn e = absurd cc
due_good step.Capabilities portion read i tdi said drawn e = absurd cc
due_good step.Lock portion read i tdi said drawn e = nonce_good _ e
due_good step.Report portion read i tdi said drawn e = portion_good _ e
due_good step.Start portion read i tdi said drawn e = start_good _ e
due_good step.Halt portion read i tdi said drawn e = absurd cc
due_good step.State portion read i tdi said drawn e = absurd cc
due_good (step.Bind peer) portion read i tdi said drawn e = bind_good _ e
due_good (step.Unbind peer) portion read i tdi said drawn e = unbind_good _ e

pub never_bad : ExchangesAreDue → RepliesAreNeverBad
never_bad due s portion read i d n said short id m e = due_good s portion read i n.tdi said (next_nonce d)
    (sym (due s portion read i d n said short id m).judged ∙ e)
