-- Reading a packet from left to right: its parts, or the first fault, as a function.
use Rattle.std.specs.Prelude.{ℕ, ◌+◌, Bool, true, List, length, take, drop, slice_index, Ok, nat_lt, ◌==◌, ◌&&◌, Result}
use Rattle.std.specs.Prelude.{if◌then◌else◌}
use Rattle.ide_types.specs.Walks.{whole_reading}
use Rattle.tlp_layout.specs.Causes.{head_size}
use Rattle.tlp_layout.specs.Reading.{may_follow, rest_size}
use Rattle.ide_prefix.specs.Packet.{Packet, begins_sync}
use Rattle.ide_prefix.specs.Causes.{is_plain, prefix_read, fits_early, packet_fault_at}
use Rattle.ide_prefix.specs.declared.fault.PacketFault.{PacketFault}

-- ---- the parts of a packet, whose bytes count as 0 if they are not there yet

abbrev pub sync_at : List ℕ → Bool
sync_at s = begins_sync (prefix_read s).sub (slice_index s 4)

-- the lengths of header, payload and tag
abbrev pub head_part : List ℕ → ℕ
head_part s = if sync_at s then 12 else head_size (slice_index (drop 4 s) 0)

abbrev pub body_part : List ℕ → ℕ
body_part s = if sync_at s then 0 else rest_size (drop 4 s)

abbrev pub tag_part : List ℕ → ℕ
tag_part s = if (prefix_read s).m then 12 else 0

abbrev pub packet_size : List ℕ → ℕ
packet_size s = 4 + head_part s + body_part s + tag_part s

abbrev pub packet_read : List ℕ → Packet
packet_read s = record {
  prefix = prefix_read s;
  head = take (head_part s) (drop 4 s);
  body = take (body_part s) (drop (head_part s) (drop 4 s));
  tag = drop (body_part s) (drop (head_part s) (drop 4 s));
}

-- ---- how far bytes go

abbrev pub wants_packet : List ℕ → Bool
wants_packet front = nat_lt (length front) (packet_size front)

-- after byte 4: zeros in a sync packet's 16 bytes in clear, a TLP's header, and then any byte
abbrev pub fits_late : List ℕ → ℕ → Bool
fits_late front b =
    if sync_at front then (if nat_lt (length front) 16 then b == 0 else true)
    else may_follow (drop 4 front) b

-- the byte may follow these first bytes of a packet
abbrev pub packet_may_follow : List ℕ → ℕ → Bool
packet_may_follow front b =
    nat_lt b 256 && (if nat_lt (length front) 5 then fits_early (length front) front b else fits_late front b)

-- ---- the reading

-- what bytes are: a plain TLP's, or a packet's
pub data CutValue : Type 0 where
  PlainTlp : CutValue
  IdePacket : Packet → CutValue

-- the packet that the bytes spell, all of the bytes, or their first fault, if they are not plain
unfoldable pub cut_of : List ℕ → Result CutValue PacketFault
cut_of bytes =
    if is_plain bytes then Ok PlainTlp
    else whole_reading wants_packet packet_may_follow (λ s. IdePacket (packet_read s)) packet_fault_at bytes
