-- The bytes that a memory request names (PCI Express Base 6.0 sections 2.2.4, 2.2.5 and 2.2.7).
use Rattle.std.specs.Prelude.{ℕ, ◌+◌, ◌-◌, ◌*◌, ◌/◌, ◌%◌, ◌^◌, ◌==◌, ◌&&◌, nat_lt, nat_le, Bool, true, if◌then◌else◌}
use Rattle.std.specs.Prelude.{Option, Some, None}
use Rattle.tlp_layout.specs.declared.head.HeadView.{HeadView}
use Rattle.tlp_layout.specs.declared.head.Fields.{Fields}
use Rattle.tlp_layout.specs.declared.head.Fields.TheVariants.{Memory}
use Rattle.trusted_memory.specs.declared.span.Span.{Span}

-- the bytes of its double words
abbrev pub span_byte_count : Span → ℕ
span_byte_count s = 4 * s.length

-- bit k of byte enables
abbrev pub is_enable_set : ℕ → ℕ → Bool
is_enable_set bits k = bits / 2 ^ k % 2 == 1

-- byte i of its double words is enabled: in the first double word by the first byte enables; in the last of more than
-- one by the last byte enables; always in between
abbrev pub is_enabled : Span → ℕ → Bool
is_enabled s i =
    if i / 4 == 0 then is_enable_set s.first_be (i % 4)
    else if i / 4 + 1 == s.length then is_enable_set s.last_be (i % 4)
    else true

-- the address is that of one of the bytes, which ascend from the span's address on
abbrev pub reaches : Span → ℕ → Bool
reaches s a = nat_le s.address a && nat_lt a (s.address + span_byte_count s)

-- the byte at the address is enabled
abbrev pub enables : Span → ℕ → Bool
enables s a = reaches s a && is_enabled s (a - s.address)

-- they cross a 4 KiB boundary
abbrev pub crosses : Span → Bool
crosses s = nat_lt 4096 (s.address % 4096 + span_byte_count s)

-- ---- headers

-- Length counts double words, and 0 stands for 1024
abbrev pub double_words : ℕ → ℕ
double_words length = if length == 0 then 1024 else length

abbrev pub span_of_fields : ℕ → Fields → Option Span
span_of_fields length (Memory f) = Some (record {
  address = f.address;
  first_be = f.first_be;
  last_be = f.last_be;
  length = double_words length;
})
span_of_fields length fields = None

-- of a memory read or write request
abbrev pub span_of : HeadView → Option Span
span_of head = span_of_fields head.lead.length head.fields

-- of a memory write request
abbrev pub write_span : HeadView → Option Span
write_span head = if head.has_payload then span_of head else None
