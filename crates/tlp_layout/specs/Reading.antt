-- Reading from left to right: the header or the TLP that bytes spell, or their first fault, as functions.
use Rattle.std.specs.Prelude.{ℕ, zero, suc, ◌+◌, ◌*◌, ◌/◌, ◌%◌, Bool, true, false, List, [], ◌∷◌, length, drop, Result}
use Rattle.std.specs.Prelude.{◌≡◌, MatchResult}
use Rattle.std.specs.Prelude.{slice_index, Option, Some, None, is_some, unwrap_or, nat_lt, ◌==◌, ◌&&◌, if◌then◌else◌}
use Rattle.byteorder.specs.Endian.{big_number}
use Rattle.ide_types.specs.Walks.{whole_reading}
use Rattle.tlp_layout.specs.Terms.{Layout, Lead, HeadView, Fields, Memory, Config, Message, Completion, Tlp, TlpFault}
use Rattle.tlp_layout.specs.Terms.layouts
use Rattle.tlp_layout.specs.Causes.{is_wide, has_data, head_size, layout_of_byte, is_allowed_byte, fault_at}
use Rattle.tlp_layout.specs.Numbers.{routing_from, completion_status}
use Rattle.tlp_layout.specs.Tlp.{header, body_size, with_payload}

-- ---- the fields of bytes

abbrev pub lead_of : List ℕ → Lead
lead_of s = record {
  wide = is_wide (slice_index s 0);
  tc = slice_index s 1 / 0x10 % 8;
  attr = 4 * (slice_index s 1 / 4 % 2) + slice_index s 2 / 0x10 % 4;
  at = slice_index s 2 / 4 % 4;
  length = 256 * (slice_index s 2 % 4) + slice_index s 3;
}

-- T9 and T8 of byte 1 above the byte at the place
abbrev pub tag_at : List ℕ → ℕ → ℕ
tag_at s i = 512 * (slice_index s 1 / 0x80) + 256 * (slice_index s 1 / 8 % 2) + slice_index s i

-- the number of the two bytes from the place on
abbrev pub number_at : List ℕ → ℕ → ℕ
number_at s i = big_number 2 (drop i s)

abbrev pub address_read : Bool → List ℕ → ℕ
address_read wide s = if wide then big_number 8 (drop 8 s) else big_number 4 (drop 8 s)

abbrev pub fields_of : Layout → List ℕ → Fields
fields_of layouts.Memory s = Memory (record {
  requester = number_at s 4;
  tag = tag_at s 6;
  last_be = slice_index s 7 / 0x10;
  first_be = slice_index s 7 % 0x10;
  address = address_read (is_wide (slice_index s 0)) s;
})
fields_of layouts.Config s = Config (record {
  one = slice_index s 0 % 0x20 == 0x05;
  requester = number_at s 4;
  tag = tag_at s 6;
  last_be = slice_index s 7 / 0x10;
  first_be = slice_index s 7 % 0x10;
  destination = number_at s 8;
  register = 64 * slice_index s 10 + slice_index s 11 / 4;
})
fields_of layouts.Message s = Message (record {
  routing = routing_from (slice_index s 0 % 8);
  requester = number_at s 4;
  tag = tag_at s 6;
  code = slice_index s 7;
  destination = number_at s 8;
  kept = slice_index s 10 ∷ slice_index s 11 ∷ slice_index s 12
      ∷ slice_index s 13 ∷ slice_index s 14 ∷ slice_index s 15 ∷ [];
})
fields_of layouts.Completion s = Completion (record {
  completer = number_at s 4;
  status = completion_status (slice_index s 6 / 0x20);
  bcm = slice_index s 6 / 0x10 % 2 == 1;
  count = 256 * (slice_index s 6 % 0x10) + slice_index s 7;
  requester = number_at s 8;
  tag = tag_at s 10;
  lower = slice_index s 11;
})

abbrev pub head_of : Layout → List ℕ → HeadView
head_of layout s = record { lead = lead_of s; has_payload = has_data (slice_index s 0); fields = fields_of layout s }

-- the header that the bytes begin with, of the layout that byte 0 names
abbrev pub head_read : List ℕ → HeadView
head_read s = head_of (unwrap_or (layout_of_byte (slice_index s 0)) layouts.Memory) s

-- and with it what stands after that header
abbrev pub tlp_read : List ℕ → Tlp
tlp_read s = with_payload (head_read s) (drop (head_size (slice_index s 0)) s)

-- ---- how far bytes go

abbrev pub layout_allows : Option Layout → ℕ → ℕ → ℕ → Bool
layout_allows None size place b = false
layout_allows (Some layout) size place b = is_allowed_byte layout size place b

-- the byte may stand at this place, after a prefix of that length: byte 0 names a layout, the header's others are those
-- of that layout, and a payload has any
abbrev pub stands_at : ℕ → List ℕ → ℕ → Bool
stands_at zero front b = is_some (layout_of_byte b)
stands_at (suc n) front b =
    if nat_lt (suc n) (head_size (slice_index front 0))
    then layout_allows (layout_of_byte (slice_index front 0)) (head_size (slice_index front 0)) (suc n) b
    else true

-- the byte may follow the prefix
abbrev pub may_follow : List ℕ → ℕ → Bool
may_follow front b = nat_lt b 256 && stands_at (length front) front b

-- the prefix of a header wants more; bytes that are not there yet count as 0
abbrev pub wants_head : List ℕ → Bool
wants_head front = nat_lt (length front) (head_size (slice_index front 0))

-- how many bytes follow a header, and how many it has with them
abbrev pub rest_size : List ℕ → ℕ
rest_size s = body_size (has_data (slice_index s 0)) (256 * (slice_index s 2 % 4) + slice_index s 3)

abbrev pub whole_size : List ℕ → ℕ
whole_size s = head_size (slice_index s 0) + rest_size s

abbrev pub wants_tlp : List ℕ → Bool
wants_tlp front = nat_lt (length front) (whole_size front)

-- ---- the readings

-- the header that the bytes spell, all of the bytes, or their first fault
unfoldable pub read_head_of : List ℕ → Result HeadView TlpFault
read_head_of bytes = whole_reading wants_head may_follow head_read fault_at bytes

-- the TLP that the bytes spell, all of the bytes, or their first fault
unfoldable pub read_of : List ℕ → Result Tlp TlpFault
read_of bytes = whole_reading wants_tlp may_follow tlp_read fault_at bytes

-- the bytes are a TLP with this header
abbrev pub IsTlpWithHead : HeadView → List ℕ → Type 0
IsTlpWithHead head bytes = MatchResult (read_of bytes) (λ t. header t ≡ head) (λ _. ⊥)
