-- Which byte may stand at each place of a header, and why another may not (PCI Express Base 6.0 section 2.2, as this
-- profile has it: see Head).
use Rattle.std.specs.Prelude.{ℕ, ◌+◌, ◌/◌, ◌%◌, Bool, true, List, length, slice_index, Option, Some, None, nat_lt}
use Rattle.std.specs.Prelude.{nat_le, ◌==◌, ◌&&◌, not, bit_and, if◌then◌else◌}
use Rattle.tlp_layout.specs.Terms.{Layout, TlpFault, Short, Kind, Bit, Length, Trailing}
use Rattle.tlp_layout.specs.declared.layout.Layout.TheVariants.{Memory, Config, Message, Completion}

-- ---- byte 0: Fmt in bits 7:5, Type in bits 4:0

-- 4 double words
abbrev pub is_wide : ℕ → Bool
is_wide b = b / 0x20 % 2 == 1

-- a payload follows
abbrev pub has_data : ℕ → Bool
has_data b = b / 0x40 % 2 == 1

-- the header's length in bytes
abbrev pub head_size : ℕ → ℕ
head_size b = if is_wide b then 16 else 12

-- Type 00000, 10rrr with rrr up to 5, 0010x or 01010; a message has 4 double words, the last two have 3
abbrev pub layout_of_byte : ℕ → Option Layout
layout_of_byte b =
    if nat_le 0x80 b then None
    else if b % 0x20 == 0x00 then Some Memory
    else if is_wide b && nat_le 0x10 (b % 0x20) && nat_lt (b % 0x20) 0x16 then Some Message
    else if not (is_wide b) && (b % 0x20 / 2 == 0x02) then Some Config
    else if not (is_wide b) && (b % 0x20 == 0x0a) then Some Completion
    else None

-- ---- the bytes after it

-- the bits that are 0 in the byte at this place of a header of this length:
-- bit 1 and TH of byte 1, TD and EP of byte 2, what is reserved, the two lowest bits of an address,
-- and in byte 2 of a configuration request Length[9:8]
abbrev pub reserved_bits : Layout → ℕ → ℕ → ℕ
reserved_bits Memory size place =
    if place == 1 then 0x03 else if place == 2 then 0xc0 else if place + 1 == size then 0x03 else 0x00
reserved_bits Config size place =
    if place == 1 then 0x03 else if place == 2 then 0xc3 else if place == 10 then 0xf0
    else if place == 11 then 0x03 else 0x00
reserved_bits Message size place = if place == 1 then 0x03 else if place == 2 then 0xc0 else 0x00
reserved_bits Completion size place =
    if place == 1 then 0x03 else if place == 2 then 0xc0 else if place == 11 then 0x80 else 0x00

-- Length[7:0] of a configuration request is 1
abbrev pub has_length : Layout → ℕ → ℕ → Bool
has_length Config place b = if place == 3 then b == 1 else true
has_length _ place b = true

abbrev pub is_allowed_byte : Layout → ℕ → ℕ → ℕ → Bool
is_allowed_byte layout size place b = (bit_and (reserved_bits layout size place) b == 0) && has_length layout place b

-- ---- why the byte at a place ends the reading, the first cause

-- after byte 0 of a header: TD and EP come before Length
abbrev pub cause_at : ℕ → ℕ → TlpFault
cause_at place b =
    if place == 2 then (if nat_lt b 0x40 then Length 2 else Bit 2)
    else if place == 3 then Length 3
    else Bit place

abbrev pub fault_at : List ℕ → ℕ → TlpFault
fault_at s place =
    if place == length s then Short place
    else if place == 0 then Kind 0
    else if nat_lt place (head_size (slice_index s 0)) then cause_at place (slice_index s place)
    else Trailing place
