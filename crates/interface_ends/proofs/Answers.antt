-- What an answer makes of the interfaces.
use Rattle.std.proofs.Common.{◌≡◌, ℕ, Bool, true, false, List, ◌++◌, Option, Some, None, refl, sym, ◌∙◌, arith}
use Rattle.std.specs.Prelude.{slice_set, slice_get, IsSome, IfSome, is_ok}
use Rattle.tdisp_codec.specs.declared.request.RequestView.{RequestView}
use Rattle.tdisp_codec.specs.declared.request.RequestView.TheVariants.{GetVersion, GetCapabilities, LockInterface}
use Rattle.tdisp_codec.specs.declared.request.RequestView.TheVariants.{GetDeviceInterfaceReport}
use Rattle.tdisp_codec.specs.declared.request.RequestView.TheVariants.{GetDeviceInterfaceState, StartInterface}
use Rattle.tdisp_codec.specs.declared.request.RequestView.TheVariants.{StopInterface, BindP2p, UnbindP2p}
use Rattle.tdisp_codec.specs.Replies.{reply_spelling}
use Rattle.interface_state.specs.Machine.{DeviceTdi, lock_answer}
use Rattle.interface_ends.specs.declared.said.StreamSaid.{StreamSaid}
use Rattle.interface_ends.specs.Replies.{DeviceTdis, next_nonce, interface_call, interface_called, interface_reply}
use Rattle.interface_ends.specs.Replies.{takes_nonce, used_after, interfaces_after_call}

-- a lock that is accepted had a nonce
given_some : (tdi : DeviceTdi) (flags offset : ℕ) (secure : Bool) → is_ok (lock_answer tdi flags offset secure None)
    ≡ false
given_some tdi flags offset secure = grind arith

pub taken_some : (tdi : DeviceTdi) (request : RequestView) (said : StreamSaid) (drawn : Option (List ℕ))
    → takes_nonce tdi request said drawn ≡ true → IsSome drawn
taken_some tdi request said (Some nonce) e = refl
taken_some tdi (LockInterface function flags stream offset mask) said None e =
    let no : true ≡ false = sym e ∙ given_some tdi flags offset said.secure in
    absurd cc
taken_some tdi (GetVersion function) said None e = absurd cc
taken_some tdi (GetCapabilities function) said None e = absurd cc
taken_some tdi (GetDeviceInterfaceReport function offset count) said None e = absurd cc
taken_some tdi (GetDeviceInterfaceState function) said None e = absurd cc
taken_some tdi (StartInterface function nonce) said None e = absurd cc
taken_some tdi (StopInterface function) said None e = absurd cc
taken_some tdi (BindP2p function stream) said None e = absurd cc
taken_some tdi (UnbindP2p function stream) said None e = absurd cc

pub reply_now : (d : DeviceTdis) (place : ℕ) (tdi : DeviceTdi) (request : RequestView) (said : StreamSaid)
    (drawn : Option (List ℕ)) (before after : List ℕ)
    → slice_get d.interfaces place ≡ Some tdi → drawn ≡ next_nonce d → after ≡ before
    ++ reply_spelling (interface_reply tdi request said drawn)
    → IfSome (slice_get d.interfaces place)
    (λ t. after ≡ before ++ reply_spelling (interface_reply t request said (next_nonce d)))
reply_now d place tdi request said drawn before after is next reply = rw (is, ← next) reply

pub device_now : (d : DeviceTdis) (place : ℕ) (tdi new : DeviceTdi) (request : RequestView) (said : StreamSaid)
    (takes : Bool)
    (drawn : Option (List ℕ)) (interfaces : List DeviceTdi) (nonces : List (List ℕ)) (used : ℕ)
    → slice_get d.interfaces place ≡ Some tdi → drawn ≡ next_nonce d → new
    ≡ interface_called tdi (interface_call request said drawn) → takes ≡ takes_nonce tdi request said drawn
    → interfaces ≡ d.interfaces → nonces ≡ d.nonces → used ≡ used_after takes d.used
    → IfSome (slice_get d.interfaces place)
    (λ t. (let kept : DeviceTdis = record
    { interfaces = slice_set interfaces place new; nonces = nonces; used = used } in kept)
    ≡ interfaces_after_call d (record { place = place; tdi = t }) request said)
device_now d place tdi new request said takes drawn interfaces nonces used is next called taken same keeps counts = rw
    (is, called, counts, taken, next, same, keeps) refl
