-- The completion that answers a memory read (PCI Express Base 6.0 sections 2.2.9 and 2.3.1). This profile's own: one
-- completion answers the whole read, and the bytes that are not enabled are 0.
use Rattle.std.specs.Prelude.{ℕ, ◌+◌, ◌-◌, ◌%◌, false, true, if◌then◌else◌, List, [], ◌∷◌, map, filter, Option, Some}
use Rattle.std.specs.Prelude.{None}
use Rattle.std.specs.List.{range_with_len}
use Rattle.tlp_layout.specs.declared.head.HeadView.{HeadView}
use Rattle.tlp_layout.specs.declared.head.Fields.TheVariants.{Completion}
use Rattle.tlp_layout.specs.declared.head.CompletionStatus.TheVariants.{Successful}
use Rattle.tlp_layout.specs.declared.tlp.Tlp.{Tlp}
use Rattle.tlp_layout.specs.Tlp.{with_payload, tlp_bytes}
use Rattle.trusted_memory.specs.declared.span.Span.{Span}
use Rattle.trusted_memory.specs.Spans.{span_byte_count, is_enabled}
use Rattle.trusted_memory.specs.declared.read.MemReadView.{MemReadView}

-- ---- the enabled bytes, by their places from 0 on

abbrev pub enabled_places : Span → List ℕ
enabled_places s = filter (is_enabled s) (range_with_len 0 (span_byte_count s))

-- the last of these places, of which k is the first
abbrev pub last_place : ℕ → List ℕ → ℕ
last_place k [] = k
last_place k (n ∷ ns) = last_place n ns

-- the first of them and the last
abbrev pub first_and_last : List ℕ → Option (ℕ × ℕ)
first_and_last [] = None
first_and_last (k ∷ ks) = Some (k, last_place k ks)

-- the first, or else this place
abbrev pub first_or : Option (ℕ × ℕ) → ℕ → ℕ
first_or None k = k
first_or (Some ends) k = ends.0

-- how many bytes they span, the first and the last counted; 1 if none is enabled
abbrev pub extent : Option (ℕ × ℕ) → ℕ
extent None = 1
extent (Some ends) = ends.1 - ends.0 + 1

-- ---- the completion

-- Byte Count, 12 bits: from the first enabled byte to the last; 0 stands for 4096
abbrev pub byte_count : Span → ℕ
byte_count s = extent (first_and_last (enabled_places s)) % 4096

-- Lower Address: the low 7 bits of the address of the first enabled byte, or of the read if it enables none
abbrev pub lower_address : Span → ℕ
lower_address s = (s.address + first_or (first_and_last (enabled_places s)) 0) % 128

-- the bytes that the read names: those that it enables as they stand in memory, and 0 for the others
abbrev pub read_bytes : (ℕ → ℕ) → Span → List ℕ
read_bytes byte s = map (λ i. if is_enabled s i then byte (s.address + i) else 0) (range_with_len 0 (span_byte_count s))

-- by the completer of this ID; Length counts double words, and 0 stands for 1024
abbrev pub completion_head : ℕ → MemReadView → HeadView
completion_head completer r = record {
  lead = record { wide = false; tc = r.tc; attr = r.attr; at = 0; length = r.span.length % 1024 };
  has_payload = true;
  fields = Completion (record {
    completer = completer;
    status = Successful;
    bcm = false;
    count = byte_count r.span;
    requester = r.requester;
    tag = r.tag;
    lower = lower_address r.span;
  });
}

-- the completion of a read of memory whose byte at each address this function gives, by the completer of this ID
abbrev pub completion : ℕ → (ℕ → ℕ) → MemReadView → Tlp
completion completer byte r = with_payload (completion_head completer r) (read_bytes byte r.span)

unfoldable pub completion_bytes : ℕ → (ℕ → ℕ) → MemReadView → List ℕ
completion_bytes completer byte r = tlp_bytes (completion completer byte r)

-- of a host (this profile)
abbrev pub host_completer : ℕ
host_completer = 0
