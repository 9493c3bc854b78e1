-- The memory of a device's interfaces, by pages of 4,096 bytes; a page that is not there is 0 (this profile).
use Rattle.std.specs.Prelude.{ℕ, ◌≡◌, ◌≤◌, ◌+◌, ◌*◌, ◌/◌, ◌%◌, ◌==◌, ◌&&◌, nat_lt, nat_le, Bool, List, [], ◌∷◌, length}
use Rattle.std.specs.Prelude.{map, slice_get, slice_index, unwrap_or, is_some, All, Option}
use Rattle.std.specs.Option.{option_map_or}
use Rattle.std.specs.Map.{lookup}
use Rattle.ide_types.specs.declared.interface.BarPlan.{BarPlan}
use Rattle.ide_types.specs.declared.interface.InterfacePlan.{InterfacePlan}
use Rattle.trusted_memory.specs.Pages.{IsBlank}
use Rattle.guarded_memory.specs.declared.names.PageName.{PageName}
use Rattle.guarded_memory.specs.Happenings.{Happened, byte_shown, newest_happened}

-- What is kept: of each interface how many pages each of its six BARs has; the pages that are there, with their bytes;
-- and the number of how many more the memory is taken already.
pub record GuardedMemory : Type 0 where
  pub sizes : List (List ℕ)
  pub pages : List (PageName × List ℕ)
  pub spare : ℕ

-- ---- sizes

-- 0 of a BAR that is not there
abbrev pub page_count : List BarPlan → ℕ → ℕ
page_count bars n = option_map_or (λ bar. bar.pages) (slice_get bars n) 0

abbrev pub page_counts : InterfacePlan → List ℕ
page_counts plan =
    page_count plan.bars 0 ∷ page_count plan.bars 1 ∷ page_count plan.bars 2 ∷ page_count plan.bars 3
    ∷ page_count plan.bars 4 ∷ page_count plan.bars 5 ∷ []

-- the bytes of the range of a BAR of an interface, none if either is not there
abbrev pub range_size : List (List ℕ) → ℕ → ℕ → ℕ
range_size sizes i b = 4096 * slice_index (unwrap_or (slice_get sizes i) []) b

-- a range of this size has the byte at the offset, and all n bytes from there on
abbrev pub fits_range : ℕ → ℕ → ℕ → Bool
fits_range size offset n = nat_lt offset size && nat_le (offset + n) size

abbrev pub has_bytes : List (List ℕ) → ℕ → ℕ → ℕ → ℕ → Bool
has_bytes sizes i b offset n = fits_range (range_size sizes i b) offset n

-- 0 at first
abbrev pub new_guarded : List InterfacePlan → GuardedMemory
new_guarded interfaces = record { sizes = map page_counts interfaces; pages = []; spare = 0 }

-- ---- bytes

abbrev pub is_page_name : PageName → PageName → Bool
is_page_name p q = (p.interface == q.interface) && ((p.bar == q.bar) && (p.number == q.number))

-- of the page that has the byte at an offset
abbrev pub name_at : ℕ → ℕ → ℕ → PageName
name_at i b offset = record { interface = i; bar = b; number = offset / 4096 }

-- the bytes of a page, none if it is not there
abbrev pub bytes_of_page : List (PageName × List ℕ) → PageName → List ℕ
bytes_of_page pages name = unwrap_or (lookup (is_page_name name) pages) []

abbrev pub byte_in_pages : List (PageName × List ℕ) → ℕ → ℕ → ℕ → ℕ
byte_in_pages pages i b offset = slice_index (bytes_of_page pages (name_at i b offset)) (offset % 4096)

-- the contents: the byte by interface, BAR and offset
abbrev pub mmio_byte : GuardedMemory → ℕ → ℕ → ℕ → ℕ
mmio_byte m i b offset = byte_in_pages m.pages i b offset

abbrev pub keeps_page : GuardedMemory → PageName → Bool
keeps_page m name = is_some (lookup (is_page_name name) m.pages)

-- the spare pages are blank, and there is room for so many pages more
pub record IsGuardedKept (spare : List (List ℕ)) (room : ℕ) : Type 0 where
  pub blank : All IsBlank spare
  pub roomy : length spare ≤ room

-- ---- what happened

-- what is read anywhere is what this left, the newest first
abbrev pub IsMmioLeftBy : GuardedMemory → List Happened → Type 0
IsMmioLeftBy m happened = (i b offset : ℕ) → mmio_byte m i b offset ≡ byte_shown happened i b offset

-- what happened, one after another, leads from the first contents to the second
abbrev pub MmioLeads : GuardedMemory → List (Option Happened) → GuardedMemory → Type 0
MmioLeads m hs n = (older : List Happened) → IsMmioLeftBy m older → IsMmioLeftBy n (newest_happened hs older)
