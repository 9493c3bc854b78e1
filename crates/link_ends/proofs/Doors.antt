-- Which of a device's responders the managers' requests reach, and what the device says of the stream that each names.
use Rattle.std.proofs.Common.{◌≡◌, ℕ, Bool, true, false, List, Option, Some, None, refl, ap}
use Rattle.std.specs.Prelude.{Result, Ok, Err}
use Rattle.key_messages.specs.declared.object.KmView.{KmView}
use Rattle.key_messages.specs.declared.object.KmView.TheVariants.{Query, QueryResp, KeyProg, KpAck, SetGo, SetStop}
use Rattle.key_messages.specs.declared.object.KmView.TheVariants.{GoStopAck}
use Rattle.key_messages.specs.{object_spelling}
use Rattle.tdisp_codec.specs.declared.fault.TdispFault.{TdispFault}
use Rattle.tdisp_codec.specs.declared.request.RequestView.{RequestView}
use Rattle.tdisp_codec.specs.declared.request.RequestView.TheVariants as request
use Rattle.tdisp_codec.specs.Messages.{read_or}
use Rattle.tdisp_codec.specs.Requests.{request_spelling, request_function}
use Rattle.interface_state.specs.declared.error_codes.ErrorCode.{ErrorCode}
use Rattle.interface_host.specs.declared.step.Step.{Step}
use Rattle.interface_host.specs.declared.step.Step.TheVariants as step
use Rattle.interface_host.specs.Views.{HostTdi, step_request}
use Rattle.interface_ends.specs.declared.said.StreamSaid.{StreamSaid}
use Rattle.interface_ends.specs.Replies.{DeviceTdis, NamedTdi, named_interface, interfaces_after_call, named_reply}
use Rattle.interface_ends.specs.Replies.{interfaces_asked_by, request_or_error, request_checked, function_or_none}
use Rattle.interface_ends.specs.Replies.{interfaces_by, interface_reply_from_request, interfaces_after_answer}
use Rattle.interface_ends.specs.Replies.{answer_bytes, stream_asked, stream_named}
use Rattle.tdisp_codec.specs.Replies.{Reply, reply_spelling}
use Rattle.ide_port.specs.{PortEnd}
use Rattle.link_ends.specs.declared.device.Protocol.{Protocol}
use Rattle.link_ends.specs.declared.device.Protocol.TheVariants.{KeyManagement}
use Rattle.link_ends.specs.DeviceEnds.{DeviceEnd, asked_device, reply_given, secure_at, said_of, protocol_of}
use Rattle.link_ends.specs.DeviceEnds.{answered_by, answer_by, answered_device, device_answer}
use Rattle.link_ends.specs.InterfaceKeepers.{live_at_step}

-- ---- objects of keys

keys_first : (x : KmView) → protocol_of (object_spelling x) ≡ Some KeyManagement
keys_first (Query port) = refl
keys_first (QueryResp port device_function bus segment highest) = refl
keys_first (KeyProg stream selector port key counter) = refl
keys_first (KpAck stream status selector port) = refl
keys_first (SetGo stream selector port) = refl
keys_first (SetStop stream selector port) = refl
keys_first (GoStopAck stream selector port) = refl

pub keys_move : (live : ℕ → Option ℕ) (e : DeviceEnd) (x : KmView) (draw : ℕ)
    → answered_device live e (object_spelling x) draw ≡ asked_device e (object_spelling x) draw
keys_move live e x draw =
    ap (λ (p : Option Protocol). answered_by p live e (object_spelling x) draw) (keys_first x)

pub keys_reply : (live : ℕ → Option ℕ) (e : DeviceEnd) (x : KmView) (draw : ℕ)
    → device_answer live e (object_spelling x) draw ≡ reply_given e (object_spelling x) draw
keys_reply live e x draw =
    ap (λ (p : Option Protocol). answer_by p live e (object_spelling x) draw) (keys_first x)

-- ---- what a request asks of what is said: a lock whether its stream is Secure, a binding which draw is Live

abbrev SameFor : Result RequestView ErrorCode → StreamSaid → StreamSaid → Type 0
SameFor (Ok (request.LockInterface function flags stream offset mask)) a b = a.secure ≡ b.secure
SameFor (Ok (request.BindP2p function stream)) a b = a.live ≡ b.live
SameFor asked a b = Unit {0}

abbrev with_secure : StreamSaid → Bool → StreamSaid
with_secure a secure = record { secure = secure; live = a.live }

abbrev with_live : StreamSaid → Option ℕ → StreamSaid
with_live a live = record { secure = a.secure; live = live }

same_call : (d : DeviceTdis) (n : NamedTdi) (r : RequestView) (a b : StreamSaid) → SameFor (Ok r) a b
    → interfaces_after_call d n r a ≡ interfaces_after_call d n r b
same_call d n (request.LockInterface function flags stream offset mask) a b same =
    ap (λ s. interfaces_after_call d n (request.LockInterface function flags stream offset mask) (with_secure a s)) same
same_call d n (request.BindP2p function stream) a b same =
    ap (λ l. interfaces_after_call d n (request.BindP2p function stream) (with_live a l)) same
same_call d n (request.GetVersion function) a b same = refl
same_call d n (request.GetCapabilities function) a b same = refl
same_call d n (request.GetDeviceInterfaceReport function offset count) a b same = refl
same_call d n (request.GetDeviceInterfaceState function) a b same = refl
same_call d n (request.StartInterface function nonce) a b same = refl
same_call d n (request.StopInterface function) a b same = refl
same_call d n (request.UnbindP2p function stream) a b same = refl

same_reply : (d : DeviceTdis) (n : NamedTdi) (r : RequestView) (a b : StreamSaid) → SameFor (Ok r) a b
    → named_reply d r a (Some n) ≡ named_reply d r b (Some n)
same_reply d n (request.LockInterface function flags stream offset mask) a b same =
    ap (λ s. named_reply d (request.LockInterface function flags stream offset mask) (with_secure a s) (Some n)) same
same_reply d n (request.BindP2p function stream) a b same =
    ap (λ l. named_reply d (request.BindP2p function stream) (with_live a l) (Some n)) same
same_reply d n (request.GetVersion function) a b same = refl
same_reply d n (request.GetCapabilities function) a b same = refl
same_reply d n (request.GetDeviceInterfaceReport function offset count) a b same = refl
same_reply d n (request.GetDeviceInterfaceState function) a b same = refl
same_reply d n (request.StartInterface function nonce) a b same = refl
same_reply d n (request.StopInterface function) a b same = refl
same_reply d n (request.UnbindP2p function stream) a b same = refl

same_asked : (d : DeviceTdis) (o : Option NamedTdi) (r : RequestView) (a b : StreamSaid) → SameFor (Ok r) a b
    → (interfaces_asked_by d r a o ≡ interfaces_asked_by d r b o) × (named_reply d r a o ≡ named_reply d r b o)
same_asked d None r a b same = (refl, refl)
same_asked d (Some n) r a b same = (same_call d n r a b same, same_reply d n r a b same)

same_by : (d : DeviceTdis) (x : Result RequestView ErrorCode) (function : ℕ) (a b : StreamSaid) → SameFor x a b
    → (interfaces_by d a x ≡ interfaces_by d b x)
    × (interface_reply_from_request d a function x ≡ interface_reply_from_request d b function x)
same_by d (Err code) function a b same = (refl, refl)
same_by d (Ok r) function a b same = same_asked d (named_interface d (request_function r)) r a b same

-- ---- requests of the manager

-- what was said of the stream that the request names, and what is said at its step
says_same : (b : Bool) (function : ℕ) (nonce : List ℕ) (o : Option TdispFault) (live : ℕ → Option ℕ) (port : PortEnd)
    (said : StreamSaid)
    → SameFor (request_or_error b (read_or (request.StartInterface function nonce) o))
    (said_of live port (stream_asked (request_or_error b (read_or (request.StartInterface function nonce) o)))) said
says_same true function nonce o live port said = tt
says_same false function nonce None live port said = tt
says_same false function nonce (Some fault) live port said = tt

said_serves : (s : Step) (portion read : ℕ) (i : HostTdi) (live : ℕ → Option ℕ) (port : PortEnd)
    → SameFor (request_checked (request_spelling (step_request s portion read i)))
    (said_of live port (stream_named (request_spelling (step_request s portion read i))))
    (record { secure = secure_at port i.stream; live = live_at_step live s })
said_serves step.Version portion read i live port = tt
said_serves step.Capabilities portion read i live port = tt
said_serves step.Lock portion read i live port = refl
said_serves step.Report portion read i live port = tt
said_serves step.Start portion read i live port = says_same _ _ _ _ live port _
said_serves step.Halt portion read i live port = tt
said_serves step.State portion read i live port = tt
said_serves (step.Bind peer) portion read i live port = refl
said_serves (step.Unbind peer) portion read i live port = tt

abbrev pub said_at_step : (ℕ → Option ℕ) → PortEnd → Step → HostTdi → StreamSaid
said_at_step live port s i = record { secure = secure_at port i.stream; live = live_at_step live s }

pub interfaces_move : (live : ℕ → Option ℕ) (e : DeviceEnd) (s : Step) (portion read draw : ℕ) (i : HostTdi)
    → answered_device live e (request_spelling (step_request s portion read i)) draw
    ≡ record e {
      interfaces = interfaces_after_answer e.interfaces (request_spelling (step_request s portion read i))
          (said_at_step live e.port s i);
    }
interfaces_move live e s portion read draw i =
    let bytes = request_spelling (step_request s portion read i) in
    ap (λ (d : DeviceTdis). record e { interfaces = d })
    ((same_by e.interfaces (request_checked bytes) (function_or_none bytes) _ _
    (said_serves s portion read i live e.port)).0)

pub interfaces_reply : (live : ℕ → Option ℕ) (e : DeviceEnd) (s : Step) (portion read draw : ℕ) (i : HostTdi)
    → device_answer live e (request_spelling (step_request s portion read i)) draw
    ≡ answer_bytes e.interfaces (request_spelling (step_request s portion read i)) (said_at_step live e.port s i)
interfaces_reply live e s portion read draw i =
    let bytes = request_spelling (step_request s portion read i) in
    ap (λ (r : Reply). reply_spelling r)
    ((same_by e.interfaces (request_checked bytes) (function_or_none bytes) _ _
    (said_serves s portion read i live e.port)).1)
