-- What a device's interfaces answer, and what each request makes of them (TDISP sections 11.1 and 11.3, in this
-- profile).
use Rattle.std.specs.Prelude.{ℕ, ◌≡◌, ◌≤◌, ◌+◌, ◌/◌, ◌%◌, ◌^◌, ◌==◌, ◌&&◌, ◌||◌, nat_lt, Bool, true, false, not, List}
use Rattle.std.specs.Prelude.{[], ◌∷◌, length, map, replicate, position, is_some, slice_get, slice_set, Option, Some}
use Rattle.std.specs.Prelude.{None, Result, Ok, Err, if◌then◌else◌, is_ok}
use Rattle.std.specs.List.{list_any}
use Rattle.std.specs.Option.{unwrap_or}
use Rattle.ide_types.specs.declared.interface.InterfacePlan.{InterfacePlan}
use Rattle.tdisp_codec.specs.declared.fault.TdispFault.{TdispFault}
use Rattle.tdisp_codec.specs.declared.fault.TdispFault.TheVariants as fault
use Rattle.tdisp_codec.specs.declared.request.RequestView.{RequestView}
use Rattle.tdisp_codec.specs.declared.request.RequestView.TheVariants.{GetVersion, GetCapabilities, LockInterface}
use Rattle.tdisp_codec.specs.declared.request.RequestView.TheVariants.{GetDeviceInterfaceReport}
use Rattle.tdisp_codec.specs.declared.request.RequestView.TheVariants.{GetDeviceInterfaceState, StartInterface}
use Rattle.tdisp_codec.specs.declared.request.RequestView.TheVariants.{StopInterface, BindP2p, UnbindP2p}
use Rattle.tdisp_codec.specs.Messages.{function_of}
use Rattle.tdisp_codec.specs.Requests.{request_function, request_reading}
use Rattle.tdisp_codec.specs.Replies.{Reply, reply_spelling}
use Rattle.tdisp_codec.specs.Replies as reply
use Rattle.interface_state.specs.declared.error_codes.ErrorCode.{ErrorCode}
use Rattle.interface_state.specs.declared.error_codes.ErrorCode.TheVariants.{InvalidRequest, UnsupportedRequest}
use Rattle.interface_state.specs.declared.error_codes.ErrorCode.TheVariants.{VersionMismatch, InvalidInterface}
use Rattle.interface_state.specs.declared.states.TdiState.{TdiState}
use Rattle.interface_state.specs.declared.states.TdiState.TheVariants.{Run}
use Rattle.interface_state.specs.Machine.{DeviceTdi, new_device_interface, error_code, state_code, lock_answer}
use Rattle.interface_state.specs.Machine.{portion_answer, start_answer, Call, LinkReset, StreamLeft}
use Rattle.interface_state.specs.Machine.{interface_after_call, bound_link_stream, bind_answer, is_answered}
use Rattle.interface_state.specs.Machine.{unbind_answer}
use Rattle.ide_types.specs.declared.binding.Binding.{Binding}
use Rattle.interface_state.specs.Bindings.{binds}
use Rattle.interface_ends.specs.declared.said.StreamSaid.{StreamSaid}
use Rattle.interface_state.specs.Machine as call

-- ---- what is kept

-- the interfaces of a link's device, its nonces, and how many of them were given
pub record DeviceTdis : Type 0 where
  pub interfaces : List DeviceTdi
  pub nonces : List (List ℕ)
  pub used : ℕ

abbrev pub new_device_interfaces : List InterfacePlan → List (List ℕ) → DeviceTdis
new_device_interfaces plans nonces = record { interfaces = map new_device_interface plans; nonces = nonces; used = 0 }

-- the nonce that is given next
abbrev pub next_nonce : DeviceTdis → Option (List ℕ)
next_nonce d = slice_get d.nonces d.used

-- ---- which interface is meant

abbrev pub requester_in : ℕ → ℕ
requester_in function = function % 65536

-- the segment is valid, and not 0
abbrev pub is_elsewhere : ℕ → Bool
is_elsewhere function = (function / 2 ^ 24 % 2 == 1) && not (function / 2 ^ 16 % 256 == 0)

abbrev pub has_requester : ℕ → DeviceTdi → Bool
has_requester requester tdi = requester == tdi.plan.requester

abbrev pub interface_place : DeviceTdis → ℕ → Option ℕ
interface_place d function =
    if is_elsewhere function then None else position (has_requester (requester_in function)) d.interfaces

-- an interface and its place
pub record NamedTdi : Type 0 where
  pub place : ℕ
  pub tdi : DeviceTdi

abbrev pub named_interface_if_there : ℕ → Option DeviceTdi → Option NamedTdi
named_interface_if_there place None = None
named_interface_if_there place (Some tdi) = Some (record { place = place; tdi = tdi })

abbrev pub named_interface_in_list : List DeviceTdi → Option ℕ → Option NamedTdi
named_interface_in_list interfaces None = None
named_interface_in_list interfaces (Some place) = named_interface_if_there place (slice_get interfaces place)

abbrev pub named_interface : DeviceTdis → ℕ → Option NamedTdi
named_interface d function = named_interface_in_list d.interfaces (interface_place d function)

-- ---- the call of an interface that a request makes

-- `said` is what the device says of the stream that the request names; `drawn` is the next nonce
abbrev pub interface_call : RequestView → StreamSaid → Option (List ℕ) → Option Call
interface_call (LockInterface function flags stream offset mask) said drawn =
    Some (call.LockInterface flags stream offset said.secure drawn)
interface_call (StartInterface function nonce) said drawn = Some (call.StartInterface nonce)
interface_call (StopInterface function) said drawn = Some call.StopInterface
interface_call (BindP2p function stream) said drawn = Some (call.BindStream stream said.live)
interface_call (UnbindP2p function stream) said drawn = Some (call.UnbindStream stream)
interface_call request said drawn = None

abbrev pub interface_called : DeviceTdi → Option Call → DeviceTdi
interface_called tdi None = tdi
interface_called tdi (Some c) = interface_after_call tdi c

-- ---- replies

abbrev pub refused_reply : ℕ → ℕ → Reply
refused_reply function code = reply.Error function code 0

abbrev pub lock_reply : ℕ → Result (List ℕ) ℕ → Reply
lock_reply function (Ok nonce) = reply.LockInterface function nonce
lock_reply function (Err code) = refused_reply function code

abbrev pub portion_reply : ℕ → Result (List ℕ × ℕ) ℕ → Reply
portion_reply function (Ok portion) = reply.DeviceInterfaceReport function portion.1 portion.0
portion_reply function (Err code) = refused_reply function code

abbrev pub start_reply : ℕ → Result (Unit {0}) ℕ → Reply
start_reply function (Ok done) = reply.StartInterface function
start_reply function (Err code) = refused_reply function code

abbrev pub bind_reply : ℕ → Result (Unit {0}) ℕ → Reply
bind_reply function (Ok done) = reply.BindP2p function
bind_reply function (Err code) = refused_reply function code

abbrev pub unbind_reply : ℕ → Result (Unit {0}) ℕ → Reply
unbind_reply function (Ok done) = reply.UnbindP2p function
unbind_reply function (Err code) = refused_reply function code

-- one version, 1.0
abbrev pub version_reply : ℕ → Reply
version_reply function = reply.Version function (0x10 ∷ [])

-- requests 0x81 to 0x89; lock flags 0 to 4; addresses of 64 bits; one request at once
abbrev pub capabilities_reply : ℕ → Reply
capabilities_reply function = reply.Capabilities function 0 (0xfe ∷ 0x03 ∷ replicate 14 0) 0x001f 64 1 1

-- of the interface that is meant
abbrev pub interface_reply : DeviceTdi → RequestView → StreamSaid → Option (List ℕ) → Reply
interface_reply tdi (GetVersion function) said drawn = version_reply function
interface_reply tdi (GetCapabilities function) said drawn = capabilities_reply function
interface_reply tdi (LockInterface function flags stream offset mask) said drawn =
    lock_reply function (lock_answer tdi flags offset said.secure drawn)
interface_reply tdi (GetDeviceInterfaceReport function offset count) said drawn =
    portion_reply function (portion_answer tdi offset count)
interface_reply tdi (GetDeviceInterfaceState function) said drawn =
    reply.DeviceInterfaceState function (state_code tdi.state)
interface_reply tdi (StartInterface function nonce) said drawn = start_reply function (start_answer tdi.state nonce)
interface_reply tdi (StopInterface function) said drawn = reply.StopInterface function
interface_reply tdi (BindP2p function stream) said drawn = bind_reply function
    (is_answered (bind_answer tdi stream said.live))
interface_reply tdi (UnbindP2p function stream) said drawn = unbind_reply function (unbind_answer tdi stream)

-- its bytes have room in 1,200
abbrev pub IsShortReply : Reply → Type 0
IsShortReply (reply.Version function versions) = length versions ≤ 1
IsShortReply (reply.Capabilities function device requests lock_flags width this all) = length requests ≡ 16
IsShortReply (reply.LockInterface function nonce) = length nonce ≡ 32
IsShortReply (reply.DeviceInterfaceReport function remainder portion) = length portion ≤ 1140
IsShortReply r = Unit {0}

-- ---- a request that is read

-- a lock that is accepted takes the nonce
abbrev pub takes_nonce : DeviceTdi → RequestView → StreamSaid → Option (List ℕ) → Bool
takes_nonce tdi (LockInterface function flags stream offset mask) said drawn =
    is_ok (lock_answer tdi flags offset said.secure drawn)
takes_nonce tdi request said drawn = false

abbrev pub used_after : Bool → ℕ → ℕ
used_after takes used = if takes then used + 1 else used

abbrev pub interfaces_after_call : DeviceTdis → NamedTdi → RequestView → StreamSaid → DeviceTdis
interfaces_after_call d n request said = record {
  interfaces = slice_set d.interfaces n.place (interface_called n.tdi (interface_call request said (next_nonce d)));
  nonces = d.nonces;
  used = used_after (takes_nonce n.tdi request said (next_nonce d)) d.used;
}

abbrev pub interfaces_asked_by : DeviceTdis → RequestView → StreamSaid → Option NamedTdi → DeviceTdis
interfaces_asked_by d request said None = d
interfaces_asked_by d request said (Some n) = interfaces_after_call d n request said

abbrev pub named_reply : DeviceTdis → RequestView → StreamSaid → Option NamedTdi → Reply
named_reply d request said None = refused_reply (request_function request) (error_code InvalidInterface)
named_reply d request said (Some n) = interface_reply n.tdi request said (next_nonce d)

abbrev pub asked_interfaces : DeviceTdis → RequestView → StreamSaid → DeviceTdis
asked_interfaces d request said = interfaces_asked_by d request said (named_interface d (request_function request))

abbrev pub request_reply : DeviceTdis → RequestView → StreamSaid → Reply
request_reply d request said = named_reply d request said (named_interface d (request_function request))

-- ---- bytes that are a message of TDISP, by their first byte

abbrev pub code_by : TdispFault → ErrorCode
code_by (fault.Version place) = VersionMismatch
code_by (fault.Kind place) = UnsupportedRequest
code_by f = InvalidRequest

-- a header that is cut off has no function ID
abbrev pub function_or_none : List ℕ → ℕ
function_or_none bytes = unwrap_or (function_of bytes) 0

-- the version is looked at before the type, and the type before the length; but a header that is cut off is refused
-- whatever it holds
abbrev pub request_or_error : Bool → Result RequestView TdispFault → Result RequestView ErrorCode
request_or_error true read = Err InvalidRequest
request_or_error false (Ok request) = Ok request
request_or_error false (Err f) = Err (code_by f)

abbrev pub request_checked : List ℕ → Result RequestView ErrorCode
request_checked bytes = request_or_error (nat_lt (length bytes) 17) (request_reading bytes)

-- the stream that a lock names, or a binding to another device
abbrev pub stream_asked : Result RequestView ErrorCode → Option ℕ
stream_asked (Ok (LockInterface function flags stream offset mask)) = Some stream
stream_asked (Ok (BindP2p function stream)) = Some stream
stream_asked asked = None

abbrev pub stream_named : List ℕ → Option ℕ
stream_named bytes = stream_asked (request_checked bytes)

abbrev pub interfaces_by : DeviceTdis → StreamSaid → Result RequestView ErrorCode → DeviceTdis
interfaces_by d said (Ok request) = asked_interfaces d request said
interfaces_by d said (Err code) = d

abbrev pub interface_reply_from_request : DeviceTdis → StreamSaid → ℕ → Result RequestView ErrorCode → Reply
interface_reply_from_request d said function (Ok request) = request_reply d request said
interface_reply_from_request d said function (Err code) = refused_reply function (error_code code)

abbrev pub interfaces_after_answer : DeviceTdis → List ℕ → StreamSaid → DeviceTdis
interfaces_after_answer d bytes said = interfaces_by d said (request_checked bytes)

abbrev pub device_reply : DeviceTdis → List ℕ → StreamSaid → Reply
device_reply d bytes said = interface_reply_from_request d said (function_or_none bytes) (request_checked bytes)

abbrev pub answer_bytes : DeviceTdis → List ℕ → StreamSaid → List ℕ
answer_bytes d bytes said = reply_spelling (device_reply d bytes said)

-- ---- streams that are left, and a reset of the link

-- bound to a stream that is not Secure
abbrev pub is_left : (ℕ → Bool) → Option ℕ → Bool
is_left is_secure None = false
is_left is_secure (Some stream) = not (is_secure stream)

-- so is one of these
abbrev pub any_left : (ℕ → Bool) → List Binding → Bool
any_left is_secure bs = list_any (λ b. not (is_secure b.stream)) bs

-- in CONFIG_LOCKED and RUN an interface goes to ERROR if a stream that it is bound to is not Secure at the device
abbrev pub settled_interface : (ℕ → Bool) → DeviceTdi → DeviceTdi
settled_interface is_secure tdi =
    if is_left is_secure (bound_link_stream tdi.state) || any_left is_secure tdi.bindings then interface_after_call tdi
    StreamLeft
    else tdi

abbrev pub settled_interfaces : (ℕ → Bool) → DeviceTdis → DeviceTdis
settled_interfaces is_secure d = record d { interfaces = map (settled_interface is_secure) d.interfaces }

abbrev pub reset_device_interfaces : DeviceTdis → DeviceTdis
reset_device_interfaces d = record d { interfaces = map (λ tdi. interface_after_call tdi LinkReset) d.interfaces }

-- ---- calls of one interface that no request makes

abbrev pub called_at : DeviceTdis → ℕ → DeviceTdi → Call → DeviceTdis
called_at d place tdi c = record d { interfaces = slice_set d.interfaces place (interface_after_call tdi c) }

-- ---- the T bit of what the device sends

-- running, and locked with this stream of its link
abbrev pub runs_on : ℕ → TdiState → Bool
runs_on stream (Run lock) = lock.stream == stream
runs_on stream state = false

abbrev pub is_owner : ℕ → ℕ → DeviceTdi → Bool
is_owner requester stream tdi = (requester == tdi.plan.requester) && runs_on stream tdi.state

-- T is set of a TLP whose owner, its requester or its completer, is an interface that runs, on the stream of the link
-- that the interface is locked with
abbrev pub interfaces_set_t : DeviceTdis → ℕ → ℕ → Bool
interfaces_set_t d requester stream = is_some (position (is_owner requester stream) d.interfaces)

-- running, and bound to this stream between two devices
abbrev pub runs_bound : ℕ → TdiState → List Binding → Bool
runs_bound stream (Run lock) bs = binds stream bs
runs_bound stream state bs = false

abbrev pub is_bound_owner : ℕ → ℕ → DeviceTdi → Bool
is_bound_owner requester stream tdi = (requester == tdi.plan.requester) && runs_bound stream tdi.state tdi.bindings

-- so it is at an end of a stream between two devices, if the interface is bound to it
abbrev pub interfaces_set_peer_t : DeviceTdis → ℕ → ℕ → Bool
interfaces_set_peer_t d requester stream = is_some (position (is_bound_owner requester stream) d.interfaces)
