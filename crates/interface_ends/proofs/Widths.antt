-- What is written has the widths of its fields.
use Rattle.std.proofs.Common.{◌≡◌, ℕ, ◌+◌, ◌<◌, ◌≤◌, ◌^◌, Bool, true, false, List, [], ◌∷◌, length, take, drop}
use Rattle.std.proofs.Common.{replicate, Option, Some, None, Result, Ok, Err, refl, arith, length-take, length-drop}
use Rattle.std.specs.Prelude.{All, IfSome, if◌then◌else◌, ◌&&◌, not, nat_lt}
use Rattle.std.proofs.lemmas.List.Elements.{All-take, All-drop, All-from_recursion}
use Rattle.tdisp_codec.specs.Requests.{request_function, FitsRequest}
use Rattle.tdisp_codec.specs.Replies.{FitsReply}
use Rattle.interface_state.specs.Kept.{kept_report}
use Rattle.std.specs.Str.{bytes_eq}
use Rattle.interface_state.specs.Bars.{any_overlap, bars_of}
use Rattle.interface_state.specs.Machine.{DeviceTdi, is_unlocked, are_lock_flags, is_page, lock_of, state_code}
use Rattle.interface_state.specs.Machine.{lock_answer, portion_of, portion_answer, start_answer, is_locked, lock_flags}
use Rattle.interface_state.specs.Machine.{draw_answer, bind_answer, is_answered, unbind_answer}
use Rattle.interface_state.specs.Bindings.{binds}
use Rattle.interface_state.specs.RegisterValues.{has_bit}
use Rattle.ide_types.specs.declared.binding.Binding.{Binding}
use Rattle.interface_state.specs.declared.states.TdiState.{TdiState}
use Rattle.interface_state.specs.declared.states.TdiState.TheVariants.{ConfigUnlocked, ConfigLocked, Run, Error}
use Rattle.interface_host.specs.declared.step.Step.{Step}
use Rattle.interface_host.specs.declared.step.Step.TheVariants as step
use Rattle.interface_host.specs.Views.{HostTdi, step_request, nonce_of}
use Rattle.interface_ends.specs.declared.said.StreamSaid.{StreamSaid}
use Rattle.interface_ends.specs.Replies.{DeviceTdis, NamedTdi, refused_reply, lock_reply, portion_reply, start_reply}
use Rattle.interface_ends.specs.Replies.{interface_reply, bind_reply, unbind_reply, next_nonce}
use Rattle.interface_ends.specs.Exchanges.{IsNonce, IsReport, FitsStep, Meets}

-- ---- requests

pub function_of : (s : Step) (portion read : ℕ) (i : HostTdi) → request_function (step_request s portion read i)
    ≡ i.requester
function_of step.Version portion read i = refl
function_of step.Capabilities portion read i = refl
function_of step.Lock portion read i = refl
function_of step.Report portion read i = refl
function_of step.Start portion read i = refl
function_of step.Halt portion read i = refl
function_of step.State portion read i = refl
function_of (step.Bind peer) portion read i = refl
function_of (step.Unbind peer) portion read i = refl

wide : (f : ℕ) → f < 2 ^ 16 → f < 2 ^ 32
wide f lt = omega arith

pub request_fits : (s : Step) (portion read : ℕ) (i : HostTdi) (d : DeviceTdis) (n : NamedTdi) → read ≤ 1140
    → FitsStep s → Meets portion i d n → FitsRequest (step_request s portion read i)
request_fits step.Version portion read i d n short id m = (wide i.requester m.requester, tt)
request_fits step.Capabilities portion read i d n short id m = (wide i.requester m.requester, tt)
request_fits step.Lock portion read i d n short id m =
    (wide i.requester m.requester, (m.flags, m.stream, m.offset, omega arith))
request_fits step.Report portion read i d n short id m = (wide i.requester m.requester, (omega arith, m.portion_most))
request_fits step.Start portion read i d n short id m = (wide i.requester m.requester, m.nonce)
request_fits step.Halt portion read i d n short id m = (wide i.requester m.requester, tt)
request_fits step.State portion read i d n short id m = (wide i.requester m.requester, tt)
request_fits (step.Bind peer) portion read i d n short id m = (wide i.requester m.requester, id)
request_fits (step.Unbind peer) portion read i d n short id m = (wide i.requester m.requester, id)

-- ---- what the device answers

abbrev pub NonceFits : Result (List ℕ) ℕ → Type 0
NonceFits (Ok nonce) = IsNonce nonce
NonceFits (Err code) = code < 2 ^ 32

either : (b : Bool) (x y : Result (List ℕ) ℕ) → NonceFits x → NonceFits y → NonceFits (if b then x else y)
either true x y hx hy = hx
either false x y hx hy = hy

drawn_fits : (drawn : Option (List ℕ)) → IfSome drawn IsNonce
    → NonceFits (Rattle.interface_state.specs.Machine.nonce_answer drawn)
drawn_fits None h = omega arith
drawn_fits (Some nonce) h = h

pub lock_fits : (tdi : DeviceTdi) (flags offset : ℕ) (secure : Bool) (drawn : Option (List ℕ)) → IfSome drawn IsNonce
    → NonceFits (lock_answer tdi flags offset secure drawn)
lock_fits tdi flags offset secure drawn h =
    either (not (is_unlocked tdi.state)) _ _ (omega arith)
    (either (not (are_lock_flags flags && is_page offset)) _ _ (omega arith)
    (either (not (secure && not (any_overlap (bars_of tdi.plan tdi.registers)))) _ _ (omega arith)
    (drawn_fits drawn h)))

abbrev pub PortionFits : Result (List ℕ × ℕ) ℕ → Type 0
PortionFits (Ok portion) = (length portion.0 ≤ 1140) × All (λ b. b < 256) portion.0 × (portion.1 ≤ 1140)
PortionFits (Err code) = code < 2 ^ 32

part_fits : (b : Bool) (report : List ℕ) (offset size : ℕ) → IsReport report → PortionFits (if b then Err
    (Rattle.interface_state.specs.Machine.error_code
    Rattle.interface_state.specs.declared.error_codes.ErrorCode.TheVariants.InvalidRequest) else Ok
    (take size (drop offset report), length (drop (offset + size) report)))
part_fits true report offset size is = omega arith
part_fits false report offset size is =
    let short = is.short in (
      omega (arith, length-take size (drop offset report), length-drop offset report),
      All-take (λ b. b < 256) size (drop offset report) (All-drop (λ b. b < 256) offset report is.bytes),
      omega (arith, length-drop (offset + size) report),
    )

pub portion_fits : (report : Option (List ℕ)) (offset size : ℕ) → IfSome report IsReport
    → PortionFits (portion_of report offset size)
portion_fits None offset size is = omega arith
portion_fits (Some report) offset size is = part_fits _ report offset size is

abbrev pub StartFits : Result (Unit {0}) ℕ → Type 0
StartFits (Ok done) = Unit {0}
StartFits (Err code) = code < 2 ^ 32

begun : (b : Bool) (x y : Result (Unit {0}) ℕ) → StartFits x → StartFits y → StartFits (if b then x else y)
begun true x y hx hy = hx
begun false x y hx hy = hy

pub start_fits : (state : TdiState) (nonce : List ℕ) → StartFits (start_answer state nonce)
start_fits ConfigUnlocked nonce = omega arith
start_fits (ConfigLocked lock held) nonce = begun (bytes_eq nonce held) _ _ tt (omega arith)
start_fits (Run lock) nonce = omega arith
start_fits Error nonce = omega arith

abbrev pub DrawFits : Result ℕ ℕ → Type 0
DrawFits (Ok draw) = Unit {0}
DrawFits (Err code) = code < 2 ^ 32

drawn_by : (b : Bool) (x y : Result ℕ ℕ) → DrawFits x → DrawFits y → DrawFits (if b then x else y)
drawn_by true x y hx hy = hx
drawn_by false x y hx hy = hy

draw_fits : (bs : List Binding) (live : Option ℕ) → DrawFits (draw_answer bs live)
draw_fits bs None = omega arith
draw_fits bs (Some draw) = drawn_by (nat_lt (length bs) 8) _ _ tt (omega arith)

pub bind_fits : (tdi : DeviceTdi) (stream : ℕ) (live : Option ℕ) → DrawFits (bind_answer tdi stream live)
bind_fits tdi stream live =
    drawn_by (not (is_locked tdi.state)) _ _ (omega arith)
    (drawn_by (not (has_bit 3 (lock_flags tdi.state) && not (binds stream tdi.bindings))) _ _ (omega arith)
    (draw_fits tdi.bindings live))

pub unbind_fits : (tdi : DeviceTdi) (stream : ℕ) → StartFits (unbind_answer tdi stream)
unbind_fits tdi stream =
    begun (not (is_locked tdi.state)) _ _ (omega arith) (begun (binds stream tdi.bindings) _ _ tt (omega arith))

-- ---- replies

refused_fits : (f code : ℕ) → f < 2 ^ 16 → code < 2 ^ 32 → FitsReply (refused_reply f code)
refused_fits f code lt fits = (wide f lt, tt, (fits, omega arith))

pub locked_fits : (f : ℕ) (answer : Result (List ℕ) ℕ) → f < 2 ^ 16 → NonceFits answer → FitsReply (lock_reply f answer)
locked_fits f (Ok nonce) lt fits = (wide f lt, tt, fits)
locked_fits f (Err code) lt fits = refused_fits f code lt fits

pub reported_fits : (f : ℕ) (answer : Result (List ℕ × ℕ) ℕ) → f < 2 ^ 16 → PortionFits answer
    → FitsReply (portion_reply f answer)
reported_fits f (Ok portion) lt fits = (wide f lt, omega (arith, fits.0), (omega (arith, fits.2), fits.1))
reported_fits f (Err code) lt fits = refused_fits f code lt fits

pub started_fits : (f : ℕ) (answer : Result (Unit {0}) ℕ) → f < 2 ^ 16 → StartFits answer
    → FitsReply (start_reply f answer)
started_fits f (Ok done) lt fits = (wide f lt, tt, tt)
started_fits f (Err code) lt fits = refused_fits f code lt fits

bound_fits : (f : ℕ) (answer : Result ℕ ℕ) → f < 2 ^ 16 → DrawFits answer
    → FitsReply (bind_reply f (is_answered answer))
bound_fits f (Ok draw) lt fits = (wide f lt, tt, tt)
bound_fits f (Err code) lt fits = refused_fits f code lt fits

unbound_fits : (f : ℕ) (answer : Result (Unit {0}) ℕ) → f < 2 ^ 16 → StartFits answer
    → FitsReply (unbind_reply f answer)
unbound_fits f (Ok done) lt fits = (wide f lt, tt, tt)
unbound_fits f (Err code) lt fits = refused_fits f code lt fits

state_fits : (state : TdiState) → state_code state < 256
state_fits ConfigUnlocked = omega arith
state_fits (ConfigLocked lock nonce) = omega arith
state_fits (Run lock) = omega arith
state_fits Error = omega arith

kept_fits : (tdi : DeviceTdi) → IfSome (lock_of tdi.state) (λ lock. IsReport (kept_report tdi.plan lock))
    → (offset size : ℕ) → PortionFits (portion_answer tdi offset size)
kept_fits tdi is offset size = kept_by tdi (lock_of tdi.state) is
  where
    kept_by : (t : DeviceTdi) (lock : Option Rattle.interface_state.specs.declared.states.Lock.Lock)
        → IfSome lock (λ l. IsReport (kept_report t.plan l)) → PortionFits
        (portion_of (Rattle.std.specs.Option.option_map (kept_report t.plan) lock) offset size)
    kept_by t None h = omega arith
    kept_by t (Some lock) h = portion_fits (Some (kept_report t.plan lock)) offset size h

pub reply_fits : (s : Step) (portion read : ℕ) (i : HostTdi) (d : DeviceTdis) (n : NamedTdi) (said : StreamSaid)
    → Meets portion i d n → FitsReply (interface_reply n.tdi (step_request s portion read i) said (next_nonce d))
reply_fits step.Version portion read i d n said m =
    (wide i.requester m.requester, omega arith, All-from_recursion (λ b. b < 256) (0x10 ∷ []) (search arith))
reply_fits step.Capabilities portion read i d n said m = (
  wide i.requester m.requester,
  tt,
  (
    omega arith,
    refl,
    All-from_recursion (λ b. b < 256) (0xfe ∷ 0x03 ∷ replicate 14 0) (search arith),
    omega arith,
    omega
        arith,
    omega arith,
    omega arith,
  ),
)
reply_fits step.Lock portion read i d n said m = locked_fits i.requester _ m.requester
    (lock_fits n.tdi i.flags i.offset said.secure (next_nonce d) m.drawn)
reply_fits step.Report portion read i d n said m = reported_fits i.requester _ m.requester
    (kept_fits n.tdi m.report read portion)
reply_fits step.Start portion read i d n said m = started_fits i.requester _ m.requester
    (start_fits n.tdi.state (nonce_of i.seen))
reply_fits step.Halt portion read i d n said m = (wide i.requester m.requester, tt, tt)
reply_fits step.State portion read i d n said m = (wide i.requester m.requester, tt, state_fits n.tdi.state)
reply_fits (step.Bind peer) portion read i d n said m = bound_fits i.requester _ m.requester
    (bind_fits n.tdi peer.id said.live)
reply_fits (step.Unbind peer) portion read i d n said m = unbound_fits i.requester _ m.requester
    (unbind_fits n.tdi peer.id)
