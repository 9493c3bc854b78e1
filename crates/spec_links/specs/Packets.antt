-- Sealed packets with what their verdicts say of them, and what events bring of them.
use Rattle.std.specs.Prelude.{if◌then◌else◌, ◌&&◌, ◌-◌, ◌==◌, Bool, List, None, Ok, Option, Result, Some, [], bit_xor}
use Rattle.std.specs.Prelude.{false, length, nat_le, nat_lt, option_map, slice_get, slice_index, slice_set, take, ℕ}
use Rattle.spec_links.specs.Terms.{option_and_then, PortName, Plan, Event, Alter, Arrive, Cut, Pass, SealedPacket}
use Rattle.spec_links.specs.Terms.{UnitName, Packet, packet_bytes, CutValue, IdePacket, cut_of, PacketFault}
use Rattle.spec_links.specs.Terms.{received_direction, sent_direction}
use Rattle.ide_types.specs.declared.sub.SubKind.TheVariants.{Pr}
use Rattle.spec_links.specs.Plan.{SubStream, is_same, partner, has_port}
use Rattle.spec_links.specs.Ports.{end_reached}

-- the sub-stream of a sealed packet
abbrev pub sub_stream_of : SealedPacket → SubStream
sub_stream_of d = record { line = d.port.line; stream = d.stream; direction = sent_direction d.port.side; sub = d.sub }

-- packets with what their verdicts say of them
abbrev pub SealedList : Type 0
SealedList = List (SealedPacket × Packet)

-- ---- what arrives

pub record ArrivedBytes : Type 0 where
  pub port : PortName
  pub bytes : List ℕ

abbrev pub packet_by_number : SealedList → ℕ → Option (SealedPacket × Packet)
packet_by_number xs n = if n == 0 then None else slice_get xs (n - 1)

-- what bytes that arrive at the port of an end meet there
abbrev pub arrival_at : Plan → PortName → List ℕ → ArrivedBytes
arrival_at plan end bytes = record { port = end_reached plan end bytes; bytes = bytes }

-- bytes of packet N arrive at the port of the other end of the line on which it was sealed
abbrev pub arrival_at_partner : Plan → SealedPacket × Packet → List ℕ → ArrivedBytes
arrival_at_partner plan x bytes = arrival_at plan (partner x.0.port) bytes

abbrev pub altered_arrival : Plan → ℕ → ℕ → SealedPacket × Packet → Option ArrivedBytes
altered_arrival plan at mask x =
    let bytes = packet_bytes x.1 in
    if nat_lt at (length bytes) then Some
    (arrival_at_partner plan x (slice_set bytes at (bit_xor (slice_index bytes at) mask)))
    else None

abbrev pub shortened_arrival : Plan → ℕ → SealedPacket × Packet → Option ArrivedBytes
shortened_arrival plan len x =
    let bytes = packet_bytes x.1 in
    if nat_le len (length bytes) then Some (arrival_at_partner plan x (take len bytes)) else None

-- what an event brings, and where, by the packets that were sealed; nothing if a packet or byte that it names does not
-- exist
abbrev pub arrived_in : Plan → SealedList → Event → Option ArrivedBytes
arrived_in plan xs (Pass n) =
    option_map (λ (x : SealedPacket × Packet). arrival_at_partner plan x (packet_bytes x.1)) (packet_by_number xs n)
arrived_in plan xs (Alter n at mask) = option_and_then (altered_arrival plan at mask) (packet_by_number xs n)
arrived_in plan xs (Cut n len) = option_and_then (shortened_arrival plan len) (packet_by_number xs n)
arrived_in plan xs (Arrive port bytes) = if has_port plan port then Some (arrival_at plan port bytes) else None
arrived_in plan xs _ = None

abbrev pub no_packet : Packet
no_packet =
    record {
      prefix = record { m = false; k = false; t = false; sub = Pr; stream = 0; posted = 0 };
      head = [];
      body = [];
      tag = [];
    }

abbrev pub cut_packet : Result CutValue PacketFault → Packet
cut_packet (Ok (IdePacket p)) = p
cut_packet _ = no_packet

abbrev pub arrival_packet : Option ArrivedBytes → Packet
arrival_packet None = no_packet
arrival_packet (Some a) = cut_packet (cut_of a.bytes)

-- the sub-stream that a unit was received in
abbrev pub received_in : PortName → UnitName → SubStream
received_in port unit =
    record { line = port.line; stream = unit.stream; direction = received_direction port.side; sub = unit.sub }

abbrev pub is_received_under : SubStream → ℕ → PortName → UnitName → Bool
is_received_under s j port unit = is_same (received_in port unit) s && (unit.draw == j)
