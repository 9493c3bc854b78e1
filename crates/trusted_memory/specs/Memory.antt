-- Regions of trusted memory and what stands in them (this profile).
use Rattle.std.specs.Prelude.{ℕ, zero, suc, ◌≡◌, ◌≤◌, ◌+◌, ◌-◌, ◌/◌, ◌==◌, not, Bool, false, if◌then◌else◌, List, []}
use Rattle.std.specs.Prelude.{◌∷◌, length, map, replicate, slice_index, Option, Some}
use Rattle.std.specs.List.{list_any}
use Rattle.ide_types.specs.declared.plan.Region.{Region}
use Rattle.event_verdicts.specs.declared.verdict.Effect.{Effect}
use Rattle.event_verdicts.specs.declared.verdict.Effect.TheVariants.{Applied}
use Rattle.trusted_memory.specs.declared.span.Span.{Span}
use Rattle.trusted_memory.specs.Writes.{Write, byte_written, byte_last_written, newest_first}
use Rattle.trusted_memory.specs.Regions.{is_inside}

-- the regions, and the bytes of each from its base on
pub record MemoryContents : Type 0 where
  pub regions : List Region
  pub bytes : List (List ℕ)

-- What is kept of them: the contents; beside them the numbers of the pages of 4,096 bytes that are there, and of how
-- many more the memory is taken already.
pub record TrustedMemory : Type 0 where
  pub contents : MemoryContents
  pub pages : List ℕ
  pub spare : ℕ

-- 0 at first
abbrev pub new_contents : List Region → MemoryContents
new_contents regions = record { regions = regions; bytes = map (λ r. replicate r.size 0) regions }

abbrev pub new_memory : List Region → TrustedMemory
new_memory regions = record { contents = new_contents regions; pages = []; spare = 0 }

abbrev pub byte_in_regions : List Region → List (List ℕ) → ℕ → ℕ
byte_in_regions (r ∷ rs) (b ∷ bs) a = if is_inside r a then slice_index b (a - r.base) else byte_in_regions rs bs a
byte_in_regions _ _ a = 0

-- the byte at an address, 0 if no region has it
abbrev pub byte_at : MemoryContents → ℕ → ℕ
byte_at m a = byte_in_regions m.regions m.bytes a

-- n bytes from an address on
abbrev pub bytes_from : (ℕ → ℕ) → ℕ → ℕ → List ℕ
bytes_from byte at zero = []
bytes_from byte at (suc n) = byte at ∷ bytes_from byte (at + 1) n

-- ---- pages

-- the page of this number, whose first byte is at 4096 times the number, is there
abbrev pub has_page : TrustedMemory → ℕ → Bool
has_page m n = list_any (λ k. n == k) m.pages

-- a spare page is taken exactly if this effect is that of a memory write of these bytes, it is applied, and its page is
-- not there
abbrev pub takes_page : TrustedMemory → Option Span → Effect → Bool
takes_page m (Some s) Applied = not (has_page m (s.address / 4096))
takes_page m o effect = false

-- how many pages that are
abbrev pub pages_taken : TrustedMemory → Option Span → Effect → ℕ
pages_taken m o effect = if takes_page m o effect then 1 else 0

-- no more pages are there than writes were applied
abbrev pub HasPagesOf : List Write → TrustedMemory → Type 0
HasPagesOf writes m = length m.pages ≤ length writes

-- ---- writes

-- what stands at an address after a write of this effect
abbrev pub byte_after_effect : Effect → Write → (ℕ → ℕ) → ℕ → ℕ
byte_after_effect Applied w old a = byte_written w old a
byte_after_effect _ w old a = old a

-- what is read anywhere is what these writes left, the newest first
abbrev pub IsLeftBy : MemoryContents → List Write → Type 0
IsLeftBy m writes = (a : ℕ) → byte_at m a ≡ byte_last_written writes a

-- writes that come one after another lead from the first contents to the second
abbrev pub Leads : MemoryContents → List (Option Write) → MemoryContents → Type 0
Leads m os n = (older : List Write) → IsLeftBy m older → IsLeftBy n (newest_first os older)
