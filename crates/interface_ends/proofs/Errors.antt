-- An ERROR changes nothing.
use Rattle.std.proofs.Common.{◌≡◌, ℕ, Bool, true, false, List, Option, Some, None, Result, Ok, Err}
use Rattle.std.proofs.Common.{refl, ap, subst, ◌∙◌}
use Rattle.std.specs.Prelude.{slice_get, slice_set, if◌then◌else◌, is_ok}
use Rattle.std.specs.Str.{bytes_eq}
use Rattle.ide_types.proofs.Places.{set_read}
use Rattle.tdisp_codec.specs.declared.request.RequestView.{RequestView}
use Rattle.tdisp_codec.specs.declared.request.RequestView.TheVariants.{GetVersion, GetCapabilities, LockInterface}
use Rattle.tdisp_codec.specs.declared.request.RequestView.TheVariants.{GetDeviceInterfaceReport}
use Rattle.tdisp_codec.specs.declared.request.RequestView.TheVariants.{GetDeviceInterfaceState, StartInterface}
use Rattle.tdisp_codec.specs.declared.request.RequestView.TheVariants.{StopInterface, BindP2p, UnbindP2p}
use Rattle.tdisp_codec.specs.Requests.{request_function}
use Rattle.tdisp_codec.specs.Replies as reply
use Rattle.interface_state.specs.declared.error_codes.ErrorCode.{ErrorCode}
use Rattle.interface_state.specs.declared.states.TdiState.{TdiState}
use Rattle.interface_state.specs.declared.states.TdiState.TheVariants.{ConfigUnlocked, ConfigLocked, Run, Error}
use Rattle.interface_state.specs.Machine.{DeviceTdi, with_state, new_lock, interface_after_lock, lock_answer}
use Rattle.interface_state.specs.Machine.{start_answer, after_start, bind_answer, is_answered, interface_after_bind}
use Rattle.interface_state.specs.Machine.{unbind_answer, unbound_with}
use Rattle.interface_state.proofs.Bound.{entered_same}
use Rattle.interface_ends.specs.declared.said.StreamSaid.{StreamSaid}
use Rattle.interface_ends.specs.Replies.{DeviceTdis, NamedTdi, named_interface, named_interface_in_list}
use Rattle.interface_ends.specs.Replies.{named_interface_if_there, interface_place, next_nonce, interface_call}
use Rattle.interface_ends.specs.Replies.{interface_called, lock_reply, start_reply, bind_reply, unbind_reply}
use Rattle.interface_ends.specs.Replies.{interface_reply, takes_nonce, used_after, interfaces_asked_by, named_reply}
use Rattle.interface_ends.specs.Replies.{request_checked}
use Rattle.interface_ends.specs.Laws.{ErrorsChangeNothing}

-- ---- the interface that is meant

at_place : (xs : List DeviceTdi) (p : ℕ) (t : Option DeviceTdi) (n : NamedTdi) → slice_get xs p ≡ t
    → named_interface_if_there p t ≡ Some n → slice_get xs n.place ≡ Some n.tdi
at_place xs p None n g e = absurd cc
at_place xs p (Some t) n g e =
    let same : (let k : NamedTdi = record { place = p; tdi = t } in k) ≡ n = cc in
    subst (λ (k : NamedTdi). slice_get xs k.place ≡ Some k.tdi) same g

pub in_list : (xs : List DeviceTdi) (place : Option ℕ) (n : NamedTdi) → named_interface_in_list xs place ≡ Some n
    → slice_get xs n.place ≡ Some n.tdi
in_list xs None n e = absurd cc
in_list xs (Some p) n e = at_place xs p (slice_get xs p) n refl e

-- ---- requests that are refused

-- what is there after a request: the interface, and whether a nonce was given
record Unchanged (tdi : DeviceTdi) (request : RequestView) (said : StreamSaid) (drawn : Option (List ℕ)) : Type 0 where
  same : interface_called tdi (interface_call request said drawn) ≡ tdi
  kept : takes_nonce tdi request said drawn ≡ false

lock_same : (tdi : DeviceTdi) (function flags stream offset mask f code value : ℕ) (said : StreamSaid)
    (drawn : Option (List ℕ))
    (answer : Result (List ℕ) ℕ) → lock_answer tdi flags offset said.secure drawn ≡ answer
    → lock_reply function answer ≡ reply.Error f code value → Unchanged tdi
    (LockInterface function flags stream offset mask) said drawn
lock_same tdi function flags stream offset mask f code value said drawn (Ok nonce) is e = absurd cc
lock_same tdi function flags stream offset mask f code value said drawn (Err c) is e = record {
  same = ap (interface_after_lock tdi (new_lock tdi flags stream offset)) is;
  kept = ap is_ok is;
}

start_by : (tdi : DeviceTdi) (function f code value : ℕ) (nonce : List ℕ) (said : StreamSaid) (drawn : Option (List ℕ))
    (state : TdiState) → tdi.state ≡ state
    → start_reply function (start_answer state nonce) ≡ reply.Error f code value → after_start state nonce ≡ state
start_by tdi function f code value nonce said drawn ConfigUnlocked is e = refl
start_by tdi function f code value nonce said drawn (Run lock) is e = refl
start_by tdi function f code value nonce said drawn Error is e = refl
start_by tdi function f code value nonce said drawn (ConfigLocked lock held) is e = tested (bytes_eq nonce held) e
  where
    tested : (b : Bool) → start_reply function (if b then Ok tt else Err 0x0102) ≡ reply.Error f code value
        → (if b then Run lock else ConfigLocked lock held) ≡ ConfigLocked lock held
    tested true e = absurd cc
    tested false e = refl

bind_same : (tdi : DeviceTdi) (stream function f code value : ℕ) (answer : Result ℕ ℕ)
    → bind_reply function (is_answered answer) ≡ reply.Error f code value → interface_after_bind tdi stream answer ≡ tdi
bind_same tdi stream function f code value (Ok draw) e = absurd cc
bind_same tdi stream function f code value (Err c) e = refl

unbind_same : (tdi : DeviceTdi) (stream function f code value : ℕ) (answer : Result (Unit {0}) ℕ)
    → unbind_reply function answer ≡ reply.Error f code value → unbound_with tdi stream answer ≡ tdi
unbind_same tdi stream function f code value (Ok done) e = absurd cc
unbind_same tdi stream function f code value (Err c) e = refl

unchanged : (tdi : DeviceTdi) (request : RequestView) (said : StreamSaid) (drawn : Option (List ℕ)) (f code value : ℕ)
    → interface_reply tdi request said drawn ≡ reply.Error f code value → Unchanged tdi request said drawn
unchanged tdi (GetVersion function) said drawn f code value e = record { same = refl; kept = refl }
unchanged tdi (GetCapabilities function) said drawn f code value e = record { same = refl; kept = refl }
unchanged tdi (LockInterface function flags stream offset mask) said drawn f code value e = lock_same tdi function
    flags stream offset mask f code value said drawn _ refl e
unchanged tdi (GetDeviceInterfaceReport function offset count) said drawn f code value e = record
    { same = refl; kept = refl }
unchanged tdi (GetDeviceInterfaceState function) said drawn f code value e = record { same = refl; kept = refl }
unchanged tdi (StartInterface function nonce) said drawn f code value e =
    record {
      same = ap (with_state tdi) (start_by tdi function f code value nonce said drawn tdi.state refl e)
          ∙ entered_same tdi;
      kept = refl;
    }
unchanged tdi (StopInterface function) said drawn f code value e = absurd cc
unchanged tdi (BindP2p function stream) said drawn f code value e =
    record {
      same = bind_same tdi stream function f code value (bind_answer tdi stream said.live) e;
      kept = refl;
    }
unchanged tdi (UnbindP2p function stream) said drawn f code value e =
    record {
      same = unbind_same tdi stream function f code value (unbind_answer tdi stream) e;
      kept = refl;
    }

by_named : (d : DeviceTdis) (request : RequestView) (said : StreamSaid) (n : Option NamedTdi) (f code value : ℕ)
    → named_interface d (request_function request) ≡ n → named_reply d request said n ≡ reply.Error f code value
    → interfaces_asked_by d request said n ≡ d
by_named d request said None f code value is e = refl
by_named d request said (Some n) f code value is e =
    let u = unchanged n.tdi request said (next_nonce d) f code value e in
    let there = in_list d.interfaces (interface_place d (request_function request)) n is in
    ap (λ t. (let k : DeviceTdis = record {
      interfaces = slice_set d.interfaces n.place t;
      nonces = d.nonces;
      used = used_after
          (takes_nonce n.tdi request said (next_nonce d)) d.used;
    } in k)) u.same
    ∙ ap (λ b. (let k : DeviceTdis = record
    { interfaces = slice_set d.interfaces n.place n.tdi; nonces = d.nonces; used = used_after b d.used } in k))
    u.kept
    ∙ ap (λ xs. (let k : DeviceTdis = record { interfaces = xs; nonces = d.nonces; used = d.used } in k))
    (set_read d.interfaces n.place n.tdi there)

by_request : (d : DeviceTdis) (said : StreamSaid) (function : ℕ) (r : Result RequestView ErrorCode) (f code value : ℕ)
    → Rattle.interface_ends.specs.Replies.interface_reply_from_request d said function r ≡ reply.Error f code value
    → Rattle.interface_ends.specs.Replies.interfaces_by d said r ≡ d
by_request d said function (Err c) f code value e = refl
by_request d said function (Ok request) f code value e = by_named d request said
    (named_interface d (request_function request)) f code value refl e

pub errors_change_nothing : ErrorsChangeNothing
errors_change_nothing d bytes said f code value e = by_request d said _ (request_checked bytes) f code value e
