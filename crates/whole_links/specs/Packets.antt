-- Bytes that arrive, and what becomes of a packet on its way to the other end of its line.
use Rattle.std.specs.Prelude.{ℕ, nat_lt, nat_le, bit_xor, List, length, take, slice_index, slice_set, Option, Some}
use Rattle.std.specs.Prelude.{None, if◌then◌else◌, option_map}
use Rattle.std.specs.Option.{option_and_then}
use Rattle.ide_types.specs.declared.plan.Plan.{Plan}
use Rattle.script_events.specs.declared.event.Event.{Event}
use Rattle.script_events.specs.declared.event.Event.TheVariants as event
use Rattle.spec_links.specs.Plan.{has_port, partner}
use Rattle.machine_ports.specs.Machine.{LinkPacket, packet_numbered}
use Rattle.whole_links.specs.declared.packets.Incoming.{Incoming}
use Rattle.whole_links.specs.declared.packets.Incoming.TheVariants.{Given, Sent}
use Rattle.whole_links.specs.declared.packets.Passage.{Passage}
use Rattle.whole_links.specs.declared.packets.Passage.TheVariants.{Whole, Altered, Cut}

-- the event in which this becomes of the packet of a number
abbrev pub packet_event : ℕ → Passage → Event
packet_event n Whole = event.Pass n
packet_event n (Altered at mask) = event.Alter n at mask
packet_event n (Cut len) = event.Cut n len

-- with one byte combined with a mask; none if they end before it
abbrev pub altered_bytes : ℕ → ℕ → List ℕ → Option (List ℕ)
altered_bytes at mask bytes =
    if nat_lt at (length bytes) then Some (slice_set bytes at (bit_xor (slice_index bytes at) mask)) else None

-- the bytes that arrive; none if it is too short
abbrev pub bytes_left : Passage → List ℕ → Option (List ℕ)
bytes_left Whole bytes = Some bytes
bytes_left (Altered at mask) bytes = altered_bytes at mask bytes
bytes_left (Cut len) bytes = if nat_le len (length bytes) then Some (take len bytes) else None

-- ---- bytes that arrive

-- the event in which they do
abbrev pub incoming_event : Incoming → Event
incoming_event (Given port bytes) = event.Arrive port bytes.now
incoming_event (Sent n passage) = packet_event n passage

-- what its passage leaves of a packet, at the other end of its line
abbrev pub passed_on : Passage → LinkPacket → Option LinkPacket
passed_on passage x =
    option_map (λ (bytes : List ℕ). record { port = partner x.port; bytes = bytes }) (bytes_left passage x.bytes)

-- the bytes that arrive, with an end at their port; none if there is no such port or packet, or if it is too short
abbrev pub incoming_bytes : Plan → List LinkPacket → Incoming → Option LinkPacket
incoming_bytes plan packets (Given port bytes) =
    if has_port plan port then Some (record { port = port; bytes = bytes.now }) else None
incoming_bytes plan packets (Sent n passage) = option_and_then (passed_on passage) (packet_numbered packets n)
