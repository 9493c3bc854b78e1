-- Worked cases: completions of reads once a write stands in memory, and what the standard's tables say of their
-- headers.
use Rattle.std.specs.Prelude.{◌≡◌, ℕ, List, [], ◌∷◌, map, Some}
use Rattle.std.specs.List.{range_with_len}
use Rattle.std.specs.Option.{option_map}
use Rattle.tlp_layout.specs.Reading.{head_read, tlp_read}
use Rattle.trusted_memory.specs.declared.span.Span.{Span}
use Rattle.trusted_memory.specs.Writes.{write_of_tlp, newest_first, byte_last_written}
use Rattle.trusted_memory.specs.Requests.{memory_read}
use Rattle.trusted_memory.specs.Completions.{byte_count, lower_address, completion_bytes}

-- 11 22 33 44 at 10000000h, by requester 0100h
abbrev pub written_bytes : List ℕ
written_bytes = 0x40 ∷ 0x00 ∷ 0x00 ∷ 0x01 ∷ 0x01 ∷ 0x00 ∷ 0x00 ∷ 0x0f ∷ 0x10 ∷ 0x00 ∷ 0x00 ∷ 0x00 ∷ 0x11 ∷ 0x22 ∷ 0x33
    ∷ 0x44 ∷ []

-- a read of so many double words from there on, by the same requester, with tag 1 and these byte enables of the last
-- and the first
abbrev pub reading_bytes : ℕ → ℕ → List ℕ
reading_bytes length enables = 0x00 ∷ 0x00 ∷ 0x00 ∷ length ∷ 0x01 ∷ 0x00 ∷ 0x01 ∷ enables ∷ 0x10 ∷ 0x00 ∷ 0x00 ∷ 0x00
    ∷ []

-- its completion, with this Byte Count, Lower Address and payload
abbrev pub case_completion : ℕ → ℕ → ℕ → List ℕ → List ℕ
case_completion length count lower payload = 0x4a ∷ 0x00 ∷ 0x00 ∷ length ∷ 0x00 ∷ 0x00 ∷ 0x00 ∷ count ∷ 0x01 ∷ 0x00
    ∷ 0x01
    ∷ lower ∷ payload

-- these are the completion's bytes of the read that these bytes are, after the write
abbrev pub IsAnswer : List ℕ → List ℕ → Type 0
IsAnswer read answer =
    option_map (completion_bytes 0 (byte_last_written (newest_first (write_of_tlp (tlp_read written_bytes) ∷ []) [])))
    (memory_read (head_read read))
    ≡ Some answer

-- of a whole double word; of its two bytes in the middle; of none of its bytes; of the last two bytes of one and the
-- first two of the next
abbrev pub AnswerCases : Type 0
AnswerCases =
    IsAnswer (reading_bytes 1 0x0f) (case_completion 1 4 0 (0x11 ∷ 0x22 ∷ 0x33 ∷ 0x44 ∷ []))
    × IsAnswer (reading_bytes 1 0x06) (case_completion 1 2 1 (0 ∷ 0x22 ∷ 0x33 ∷ 0 ∷ []))
    × IsAnswer (reading_bytes 1 0x00) (case_completion 1 1 0 (0 ∷ 0 ∷ 0 ∷ 0 ∷ []))
    × IsAnswer (reading_bytes 2 0x3c) (case_completion 2 4 2 (0 ∷ 0 ∷ 0x33 ∷ 0x44 ∷ 0 ∷ 0 ∷ 0 ∷ 0 ∷ []))

-- ---- the tables of PCI Express Base 6.0 section 2.3.1.1

-- one double word with these byte enables
abbrev pub one_double_word : ℕ → Span
one_double_word enables = record { address = 0x10000000; first_be = enables; last_be = 0; length = 1 }

-- all bytes of 1,024 double words
abbrev pub most_bytes_span : Span
most_bytes_span = record { address = 0x10000000; first_be = 15; last_be = 15; length = 1024 }

-- Byte Count and Lower Address of one double word, by its byte enables from 0 to 15; Byte Count of the longest read
abbrev pub TableCases : Type 0
TableCases =
    (map (λ b. byte_count (one_double_word b)) (range_with_len 0 16)
    ≡ 1 ∷ 1 ∷ 1 ∷ 2 ∷ 1 ∷ 3 ∷ 2 ∷ 3 ∷ 1 ∷ 4 ∷ 3 ∷ 4 ∷ 2 ∷ 4 ∷ 3 ∷ 4 ∷ [])
    × (map (λ b. lower_address (one_double_word b)) (range_with_len 0 16)
    ≡ 0 ∷ 0 ∷ 1 ∷ 0 ∷ 2 ∷ 0 ∷ 1 ∷ 0 ∷ 3 ∷ 0 ∷ 1 ∷ 0 ∷ 2 ∷ 0 ∷ 1 ∷ 0 ∷ [])
    × (byte_count most_bytes_span ≡ 0)
