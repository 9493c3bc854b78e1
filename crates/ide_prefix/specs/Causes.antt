-- Which byte may stand at each place of a packet, and why another may not (this profile).
use Rattle.std.specs.Prelude.{ℕ, ◌+◌, ◌-◌, ◌/◌, ◌%◌, Bool, true, false, List, [], ◌∷◌, length, slice_index, Option}
use Rattle.std.specs.Prelude.{Some, None, nat_lt, ◌==◌, not, is_some, if◌then◌else◌}
use Rattle.ide_types.specs.declared.sub.SubKind.{SubKind}
use Rattle.ide_types.specs.declared.sub.SubKind.TheVariants.{Pr, Npr, Cpl}
use Rattle.ide_types.specs.Sub.{sub_bits}
use Rattle.tlp_layout.specs.declared.head.TlpKind.{TlpKind}
use Rattle.tlp_layout.specs.declared.fault.TlpFault.{TlpFault}
use Rattle.tlp_layout.specs.declared.fault.TlpFault.TheVariants as tlps
use Rattle.tlp_layout.specs.Causes.{head_size, cause_at}
use Rattle.tlp_layout.specs.Class.{kind_of_byte, kind_class}
use Rattle.ide_prefix.specs.declared.packet.Prefix.{Prefix}
use Rattle.ide_prefix.specs.declared.fault.PacketFault.{PacketFault}
use Rattle.ide_prefix.specs.declared.fault.PacketFault.TheVariants.{Short, Reserved, SubStream, Class, Tlp, Sync}
use Rattle.ide_prefix.specs.declared.fault.PacketFault.TheVariants.{Trailing}
use Rattle.ide_prefix.specs.Packet.{packet_first, begins_sync}

-- byte 0 is there and is not 0x92: the bytes are a plain TLP's, and no packet's
abbrev pub is_plain : List ℕ → Bool
is_plain [] = false
is_plain (b ∷ bytes) = not (b == packet_first)

-- ---- the fields of the prefix, bytes 1 to 3

abbrev pub sub_from : ℕ → SubKind
sub_from n = if n == 0 then Pr else if n == 1 then Npr else Cpl

abbrev pub prefix_read : List ℕ → Prefix
prefix_read s = record {
  m = slice_index s 1 / 0x80 == 1;
  k = slice_index s 1 / 0x40 % 2 == 1;
  t = slice_index s 1 / 0x20 % 2 == 1;
  sub = sub_from (slice_index s 1 % 8);
  stream = slice_index s 2;
  posted = slice_index s 3;
}

-- ---- which byte may stand at one of the first five places

-- a TLP of this kind belongs to the sub-stream
abbrev pub belongs : SubKind → Option TlpKind → Bool
belongs sub None = false
belongs sub (Some kind) = sub_bits (kind_class kind) == sub_bits sub

-- byte 4: a sync packet has M and not T
abbrev pub fits_first : Prefix → ℕ → Bool
fits_first p b =
    if begins_sync p.sub b then (if p.m then not p.t else false)
    else belongs p.sub (kind_of_byte b)

-- byte 1: bits 4:3 are 0, and the sub-stream is one of three; byte 3: posted packets carry no count
abbrev pub fits_early : ℕ → List ℕ → ℕ → Bool
fits_early place s b =
    if place == 0 then b == packet_first
    else if place == 1 then (if b / 8 % 4 == 0 then nat_lt (b % 8) 3 else false)
    else if place == 3 then (if slice_index s 1 % 8 == 0 then b == 0 else true)
    else if place == 4 then fits_first (prefix_read s) b
    else true

-- ---- why the byte at a place ends the reading, the first cause

-- at bytes 1, 3 and 4: at byte 1 Reserved comes before SubStream, at byte 4 Sync before Kind before Class
abbrev pub early_cause : ℕ → List ℕ → ℕ → PacketFault
early_cause place s b =
    if place == 1 then (if b / 8 % 4 == 0 then SubStream 1 else Reserved 1)
    else if place == 4 then
    (if begins_sync (prefix_read s).sub b then Sync 4
    else if is_some (kind_of_byte b) then Class 4
    else Tlp (tlps.Kind 4))
    else Reserved place

-- a header's fault, its place after the prefix
abbrev pub fault_after_prefix : TlpFault → TlpFault
fault_after_prefix (tlps.Short place) = tlps.Short (place + 4)
fault_after_prefix (tlps.Kind place) = tlps.Kind (place + 4)
fault_after_prefix (tlps.Bit place) = tlps.Bit (place + 4)
fault_after_prefix (tlps.Length place) = tlps.Length (place + 4)
fault_after_prefix (tlps.Trailing place) = tlps.Trailing (place + 4)

-- the length of what stands in clear after the prefix, by its first byte
abbrev pub clear_size : SubKind → ℕ → ℕ
clear_size sub b = if begins_sync sub b then 12 else head_size b

-- after byte 4: in a sync packet, in a TLP's header, after the packet
abbrev pub late_cause : List ℕ → ℕ → PacketFault
late_cause s place =
    if nat_lt place (4 + clear_size (prefix_read s).sub (slice_index s 4))
    then
    (if begins_sync (prefix_read s).sub (slice_index s 4) then Sync place
    else Tlp (fault_after_prefix (cause_at (place - 4) (slice_index s place))))
    else Trailing place

abbrev pub packet_fault_at : List ℕ → ℕ → PacketFault
packet_fault_at s place =
    if place == length s then Short place
    else if nat_lt place 5 then early_cause place s (slice_index s place)
    else late_cause s place
