-- The device's end of a link: its port, what its responder of keys answers, and its interfaces (PCI Express Base 6.0
-- section 6.33 and chapter 11, in this profile).
use Rattle.std.specs.Prelude.{ℕ, ◌||◌, ◌==◌, if◌then◌else◌, Bool, true, false, List, [], ◌∷◌, Option, Some, None}
use Rattle.std.specs.Prelude.{is_some}
use Rattle.ide_types.specs.Ports.{device_port}
use Rattle.ide_types.specs.declared.port.Side.TheVariants as side
use Rattle.ide_types.specs.declared.status.StreamStatus.{StreamStatus}
use Rattle.ide_types.specs.declared.status.StreamStatus.TheVariants.{Secure}
use Rattle.ide_types.specs.declared.interface.InterfacePlan.{InterfacePlan}
use Rattle.ide_types.specs.declared.stream.StreamPlan.{StreamPlan}
use Rattle.tlp_layout.specs.declared.head.HeadView.{HeadView}
use Rattle.tlp_layout.specs.Choice.{id_of}
use Rattle.key_messages.specs.{PlaceCall, call_of, is_done, reply_bytes}
use Rattle.interface_ends.specs.Replies.{DeviceTdis, new_device_interfaces, settled_interfaces, interfaces_set_t}
use Rattle.interface_ends.specs.Replies.{interfaces_set_peer_t, interfaces_after_answer, answer_bytes, stream_named}
use Rattle.interface_ends.specs.declared.said.StreamSaid.{StreamSaid}
use Rattle.ide_port.specs.{PortEnd, new_port, slot_pair_at, called_port, port_stream_status}
use Rattle.link_ends.specs.declared.device.Device.{Device}
use Rattle.link_ends.specs.declared.device.Protocol.{Protocol}
use Rattle.link_ends.specs.declared.device.Protocol.TheVariants.{KeyManagement, Interfaces}

-- its port, the requester ID that it is asked for, and its interfaces
abbrev pub DeviceEnd : Type 0
DeviceEnd = Device

abbrev pub new_device : ℕ → List StreamPlan → ℕ → ℕ → List InterfacePlan → List (List ℕ) → DeviceEnd
new_device line plans limit requester interfaces nonces = record {
  port = new_port (device_port line) plans limit;
  requester = requester;
  interfaces = new_device_interfaces interfaces nonces;
}

-- ---- streams

abbrev pub says_secure : Option StreamStatus → Bool
says_secure (Some Secure) = true
says_secure status = false

-- the port has the stream, and it is Secure there
abbrev pub secure_at : PortEnd → ℕ → Bool
secure_at port stream = says_secure (port_stream_status port stream)

-- `live` says of streams between the device and others which draw is Live where the device receives posted requests, if
-- the stream is Secure at its end
abbrev pub secure_or_live : PortEnd → (ℕ → Option ℕ) → ℕ → Bool
secure_or_live port live stream = secure_at port stream || is_some (live stream)

-- interfaces that are bound to a stream that is not Secure leave their lock
abbrev pub settled_device : (ℕ → Option ℕ) → DeviceEnd → DeviceEnd
settled_device live e = record e { interfaces = settled_interfaces (secure_or_live e.port live) e.interfaces }

-- ---- keys

-- as the port takes the call that the request makes, or not
abbrev pub reply_given : DeviceEnd → List ℕ → ℕ → List ℕ
reply_given e request draw = reply_bytes e.requester request (is_done (slot_pair_at e.port) (call_of request draw))

abbrev pub after_call : PortEnd → Option PlaceCall → PortEnd
after_call port None = port
after_call port (Some call) = called_port call port

abbrev pub asked_device : DeviceEnd → List ℕ → ℕ → DeviceEnd
asked_device e request draw = record e { port = after_call e.port (call_of request draw) }

-- ---- interfaces

-- what the device says of the stream that a request names, if it names one
abbrev pub said_of : (ℕ → Option ℕ) → PortEnd → Option ℕ → StreamSaid
said_of live port None = record { secure = false; live = None }
said_of live port (Some stream) = record { secure = secure_at port stream; live = live stream }

-- ---- a request of any bytes

-- by its first byte
abbrev pub protocol_of : List ℕ → Option Protocol
protocol_of [] = None
protocol_of (first ∷ rest) = if first == 0x00 then Some KeyManagement else if first == 0x01 then Some Interfaces else
    None

-- of any other first byte, and of no bytes, there is no reply, and nothing changes
abbrev pub answered_by : Option Protocol → (ℕ → Option ℕ) → DeviceEnd → List ℕ → ℕ → DeviceEnd
answered_by (Some KeyManagement) live e request draw = asked_device e request draw
answered_by (Some Interfaces) live e request draw = record e {
  interfaces = interfaces_after_answer e.interfaces request (said_of live e.port (stream_named request));
}
answered_by None live e request draw = e

abbrev pub answer_by : Option Protocol → (ℕ → Option ℕ) → DeviceEnd → List ℕ → ℕ → List ℕ
answer_by (Some KeyManagement) live e request draw = reply_given e request draw
answer_by (Some Interfaces) live e request draw =
    answer_bytes e.interfaces request (said_of live e.port (stream_named request))
answer_by None live e request draw = []

abbrev pub answered_device : (ℕ → Option ℕ) → DeviceEnd → List ℕ → ℕ → DeviceEnd
answered_device live e request draw = answered_by (protocol_of request) live e request draw

abbrev pub device_answer : (ℕ → Option ℕ) → DeviceEnd → List ℕ → ℕ → List ℕ
device_answer live e request draw = answer_by (protocol_of request) live e request draw

-- ---- T

abbrev pub owner_sets : DeviceTdis → ℕ → Option ℕ → Bool
owner_sets d stream None = false
owner_sets d stream (Some requester) = interfaces_set_t d requester stream

-- of a TLP with this header on a stream
abbrev pub device_trusting : DeviceTdis → HeadView → ℕ → Bool
device_trusting d head stream = owner_sets d stream (id_of side.Device head.fields)

abbrev pub bound_owner_sets : DeviceTdis → ℕ → Option ℕ → Bool
bound_owner_sets d stream None = false
bound_owner_sets d stream (Some requester) = interfaces_set_peer_t d requester stream

-- of one on a stream between two devices
abbrev pub peer_trusting : DeviceTdis → HeadView → ℕ → Bool
peer_trusting d head stream = bound_owner_sets d stream (id_of side.Device head.fields)
