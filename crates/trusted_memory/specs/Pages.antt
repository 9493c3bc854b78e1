-- Contents by pages of 4,096 bytes; a page that is not there is 0.
use Rattle.std.specs.Prelude.{◌≡◌, ℕ, ◌/◌, ◌%◌, ◌≤◌, nat_eq, List, length, map, replicate, slice_index, unwrap_or, []}
use Rattle.std.specs.Prelude.{All}
use Rattle.std.specs.Map.{lookup, keys_of}
use Rattle.ide_types.specs.declared.plan.Region.{Region}
use Rattle.ide_types.specs.Fits.{FitsRegion}
use Rattle.trusted_memory.specs.Writes.{Write, byte_written}
use Rattle.trusted_memory.specs.Memory.{MemoryContents, TrustedMemory, bytes_from}

-- the bytes of a page, none if it is not there
abbrev pub page_bytes : List (ℕ × List ℕ) → ℕ → List ℕ
page_bytes pages n = unwrap_or (lookup (nat_eq n) pages) []

-- the byte at an address
abbrev pub paged_byte : List (ℕ × List ℕ) → ℕ → ℕ
paged_byte pages a = slice_index (page_bytes pages (a / 4096)) (a % 4096)

-- what the pages hold of the regions
abbrev pub contents_seen : List Region → List (ℕ × List ℕ) → MemoryContents
contents_seen regions pages = record {
  regions = regions;
  bytes = map (λ r. bytes_from (paged_byte pages) r.base r.size) regions;
}

abbrev pub memory_seen : List Region → List (ℕ × List ℕ) → ℕ → TrustedMemory
memory_seen regions pages spare = record {
  contents = contents_seen regions pages;
  pages = keys_of pages;
  spare = spare;
}

-- a page of bytes 0
abbrev pub IsBlank : List ℕ → Type 0
IsBlank page = page ≡ replicate 4096 0

-- the regions are as in a plan; the spare pages are blank, and there is room for so many pages more
pub record IsMemoryKept (regions : List Region) (spare : List (List ℕ)) (room : ℕ) : Type 0 where
  pub fit : All FitsRegion regions
  pub blank : All IsBlank spare
  pub roomy : length spare ≤ room

-- the enabled bytes of a write stand in a page, the first of its bytes at `start`, and all else is as before
abbrev pub HasWritten : ℕ → Write → List ℕ → List ℕ → Type 0
HasWritten start w old new = (k : ℕ) → slice_index new k ≡ byte_written
    (record w { span = record w.span { address = start } })
    (λ i. slice_index old i) k
