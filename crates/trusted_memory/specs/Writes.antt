-- Memory write requests, and what stands at each address after them (PCI Express Base 6.0 sections 2.2.4, 2.2.5 and
-- 2.2.7).
use Rattle.std.specs.Prelude.{ℕ, ◌-◌, if◌then◌else◌, List, [], ◌∷◌, slice_index, find, Option, Some, None}
use Rattle.std.specs.Option.{option_map}
use Rattle.tlp_layout.specs.declared.head.HeadView.{HeadView}
use Rattle.tlp_layout.specs.declared.tlp.Tlp.{Tlp}
use Rattle.tlp_layout.specs.Tlp.{header, body}
use Rattle.trusted_memory.specs.declared.span.Span.{Span}
use Rattle.trusted_memory.specs.declared.write.MemWriteView.{MemWriteView}
use Rattle.trusted_memory.specs.Spans.{enables, write_span}

-- the bytes that it names, and its payload
pub record Write : Type 0 where
  pub span : Span
  pub payload : List ℕ

-- the payload's byte for the address; 0 after the end of a payload that is shorter than the span
abbrev pub payload_byte : Write → ℕ → ℕ
payload_byte w a = slice_index w.payload (a - w.span.address)

-- what stands at an address once the write is written over old bytes
abbrev pub byte_written : Write → (ℕ → ℕ) → ℕ → ℕ
byte_written w old a = if enables w.span a then payload_byte w a else old a

-- ---- writes, the newest first

-- the last write that enables the byte at the address
abbrev pub last_enabling : List Write → ℕ → Option Write
last_enabling writes a = find (λ w. enables w.span a) writes

abbrev pub written_byte : Option Write → ℕ → ℕ
written_byte None a = 0
written_byte (Some w) a = payload_byte w a

-- what is read at an address: the byte of the last write that enables it, else 0
unfoldable pub byte_last_written : List Write → ℕ → ℕ
byte_last_written writes a = written_byte (last_enabling writes a) a

-- each write written over what the older ones left, from 0 everywhere on
abbrev pub written_in_turn : List Write → ℕ → ℕ
written_in_turn [] a = 0
written_in_turn (w ∷ older) a = byte_written w (written_in_turn older) a

-- writes that come one after another, before older ones in the list, the newest first
abbrev pub newest_first : List (Option Write) → List Write → List Write
newest_first [] older = older
newest_first (None ∷ os) older = newest_first os older
newest_first (Some w ∷ os) older = newest_first os (w ∷ older)

-- ---- TLPs

-- the memory write of a header and a payload
abbrev pub memory_write : HeadView → List ℕ → Option Write
memory_write head payload = option_map (λ s. record { span = s; payload = payload }) (write_span head)

-- the memory write that a TLP is
abbrev pub write_of_tlp : Tlp → Option Write
write_of_tlp t = memory_write (header t) (body t)

-- the write that a view shows: lent bytes are the bytes
abbrev pub write_of : MemWriteView → Write
write_of v = record { span = v.span; payload = v.payload.now }
