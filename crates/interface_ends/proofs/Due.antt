-- The manager reads the device's replies as what is due.
use Rattle.std.proofs.Common.{◌≡◌, ℕ, ◌+◌, ◌<◌, ◌≤◌, ◌==◌, Bool, true, false, List, length, take, drop, Option, Some}
use Rattle.std.proofs.Common.{None, Result, Ok, Err, refl, ◌∙◌, arith, length-take, length-drop}
use Rattle.std.specs.Prelude.{IfSome, if◌then◌else◌, ◌||◌, nat_le}
use Rattle.std.specs.Option.{option_map}
use Rattle.spec_keys.proofs.Tests.{le-true, same-true, neither-true, false-le}
use Rattle.interface_state.specs.declared.error_codes.ErrorCode.TheVariants.{InvalidRequest}
use Rattle.interface_state.specs.declared.states.Lock.{Lock}
use Rattle.interface_state.specs.Kept.{kept_report}
use Rattle.interface_state.specs.Machine.{DeviceTdi, lock_of, error_code, portion_of, is_answered}
use Rattle.interface_host.specs.declared.step.Step.{Step}
use Rattle.interface_host.specs.declared.step.Step.TheVariants as step
use Rattle.interface_host.specs.Judging.{JudgedAnswer, if_same, is_portion, judged_nonce, portion_in_reply, start_in}
use Rattle.interface_host.specs.Judging.{bind_in, unbind_in, step_judged}
use Rattle.interface_host.specs.Views.{HostTdi, step_request}
use Rattle.interface_ends.specs.declared.said.StreamSaid.{StreamSaid}
use Rattle.interface_ends.specs.Replies.{DeviceTdis, NamedTdi, lock_reply, portion_reply, start_reply, bind_reply}
use Rattle.interface_ends.specs.Replies.{unbind_reply, interface_reply, next_nonce}
use Rattle.interface_ends.specs.Exchanges.{nonce_due, portion_due, start_judged, bind_judged, unbind_judged, judged_due}
use Rattle.interface_ends.specs.Exchanges.{IsReport, Meets}

-- a reply that gives back the function ID
same_function : (f : ℕ) (j : JudgedAnswer) → if_same f f j ≡ j
same_function f j = rw (same-true f) refl

lock_read : (f : ℕ) (answer : Result (List ℕ) ℕ) → judged_nonce f (lock_reply f answer) ≡ nonce_due answer
lock_read f (Ok nonce) = same_function f _
lock_read f (Err code) = refl

start_read : (f : ℕ) (answer : Result (Unit {0}) ℕ) → start_in f (start_reply f answer) ≡ start_judged answer
start_read f (Ok done) = same_function f _
start_read f (Err code) = refl

bind_read : (f : ℕ) (answer : Result ℕ ℕ) → bind_in f (bind_reply f (is_answered answer)) ≡ bind_judged answer
bind_read f (Ok draw) = same_function f _
bind_read f (Err code) = refl

unbind_read : (f : ℕ) (answer : Result (Unit {0}) ℕ) → unbind_in f (unbind_reply f answer) ≡ unbind_judged answer
unbind_read f (Ok done) = same_function f _
unbind_read f (Err code) = refl

-- ---- portions

abbrev portion_at : List ℕ → ℕ → ℕ → Bool → Result (List ℕ × ℕ) ℕ
portion_at report offset size b = if b then Err (error_code InvalidRequest) else Ok
    (take size (drop offset report), length (drop (offset + size) report))

-- it is no longer than asked, and with what follows it no longer than a report
fits_read : (report : List ℕ) (offset size : ℕ) → IsReport report → 1 ≤ size → offset < length report
    → is_portion size offset (length (take size (drop offset report))) (length (drop (offset + size) report)) ≡ true
fits_read report offset size is some lt =
    let short = is.short in
    let long : length (take size (drop offset report)) ≤ size = omega (arith, length-take size (drop offset report)) in
    let least : 1 ≤ length (take size (drop offset report)) = omega
    (arith, length-take size (drop offset report), length-drop offset report) in
    let most : offset + length (take size (drop offset report)) + length (drop (offset + size) report) ≤ 1140
    = omega (
      arith,
      length-take size (drop offset report),
      length-drop offset report,
      length-drop (offset + size)
          report,
    ) in
    rw (le-true 1 _ least, le-true _ size long, le-true _ 1140 most) refl

part_read : (f : ℕ) (report : List ℕ) (offset size : ℕ) (b : Bool) → IsReport report → 1 ≤ size
    → ((size == 0) || nat_le (length report) offset) ≡ b
    → portion_in_reply size offset f (portion_reply f (portion_at report offset size b))
    ≡ portion_due (portion_at report offset size b)
part_read f report offset size true is some e = refl
part_read f report offset size false is some e =
    let fits = fits_read report offset size is some (false-le (length report) offset (neither-true _ _ e).1) in
    same_function f _ ∙ (rw fits refl)

report_read : (f : ℕ) (report : Option (List ℕ)) (offset size : ℕ) → IfSome report IsReport → 1 ≤ size
    → portion_in_reply size offset f (portion_reply f (portion_of report offset size))
    ≡ portion_due (portion_of report offset size)
report_read f None offset size is some = refl
report_read f (Some report) offset size is some = part_read f report offset size _ is some refl

kept_read : (f : ℕ) (tdi : DeviceTdi) (lock : Option Lock) (offset size : ℕ)
    → IfSome lock (λ l. IsReport (kept_report tdi.plan l)) → 1 ≤ size
    → portion_in_reply size offset f (portion_reply f (portion_of (option_map (kept_report tdi.plan) lock) offset size))
    ≡ portion_due (portion_of (option_map (kept_report tdi.plan) lock) offset size)
kept_read f tdi None offset size is some = refl
kept_read f tdi (Some lock) offset size is some = report_read f (Some (kept_report tdi.plan lock)) offset size is some

pub reply_due : (s : Step) (portion read : ℕ) (i : HostTdi) (d : DeviceTdis) (n : NamedTdi) (said : StreamSaid)
    → Meets portion i d n
    → step_judged s i.requester portion read (interface_reply n.tdi (step_request s portion read i) said (next_nonce d))
    ≡ judged_due s portion read i n.tdi said (next_nonce d)
reply_due step.Version portion read i d n said m = same_function i.requester _
reply_due step.Capabilities portion read i d n said m = same_function i.requester _
reply_due step.Lock portion read i d n said m = lock_read i.requester _
reply_due step.Report portion read i d n said m = kept_read i.requester n.tdi (lock_of n.tdi.state) read portion
    m.report m.portion_least
reply_due step.Start portion read i d n said m = start_read i.requester _
reply_due step.Halt portion read i d n said m = same_function i.requester _
reply_due step.State portion read i d n said m = same_function i.requester _
reply_due (step.Bind peer) portion read i d n said m = bind_read i.requester _
reply_due (step.Unbind peer) portion read i d n said m = unbind_read i.requester _
