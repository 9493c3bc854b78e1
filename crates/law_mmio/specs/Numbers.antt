-- Bytes that memory writes leave, and the ranges that claim them, said in numbers (PCI Express Base 6.0 sections 2.2.4,
-- 2.2.5, 2.2.7 and 7.5.1.2.1, in this profile).
use Rattle.std.specs.Prelude.{◌≡◌, ◌≤◌, ◌<◌, ◌+◌, ◌-◌, ◌*◌, ◌⊎◌, List, None, Option, Some, slice_get, slice_index, true}
use Rattle.std.specs.Prelude.{ℕ}
use Rattle.ide_types.specs.declared.interface.BarPlan.{BarPlan}
use Rattle.trusted_memory.specs.declared.span.Span.{Span}
use Rattle.trusted_memory.specs.Spans.{is_enabled}
use Rattle.trusted_memory.specs.Writes.{Write}
use Rattle.guarded_memory.specs.declared.status.InterfaceStatus.{InterfaceStatus}
use Rattle.guarded_memory.specs.declared.claims.Claim.{Claim}
use Rattle.guarded_memory.specs.Claims.{claim_of}

-- ---- bytes

-- The byte at the address is one of so many double words, whose bytes ascend from their own address on, and its byte
-- enable is set.
pub record NamesByte (s : Span) (at : ℕ) : Type 0 where
  pub from : s.address ≤ at
  pub to : at < s.address + 4 * s.length
  pub enable : is_enabled s (at - s.address) ≡ true

-- Of writes, the newest first, this is the first that names the byte at the address. The byte is that of its payload as
-- far behind the payload's first as the address is behind the write's own; 0 behind the payload's end.
pub record IsOfWrite (ws : List Write) (at byte : ℕ) : Type 0 where
  pub write : Write
  pub place : ℕ
  pub stands : slice_get ws place ≡ Some write
  pub names : NamesByte write.span at
  pub last : (i : ℕ) (w : Write) → i < place → slice_get ws i ≡ Some w → NamesByte w.span at → ⊥
  pub byte_is : byte ≡ slice_index write.payload (at - write.span.address)

-- no write names it, and it is 0
pub record IsOfNone (ws : List Write) (at byte : ℕ) : Type 0 where
  pub none : (i : ℕ) (w : Write) → slice_get ws i ≡ Some w → NamesByte w.span at → ⊥
  pub byte_is : byte ≡ 0

abbrev pub IsLastByte : List Write → ℕ → ℕ → Type 0
IsLastByte ws at byte = IsOfWrite ws at byte ⊎ IsOfNone ws at byte

-- the byte that is shown of an address is the one that the writes left there
pub record ShowsByte (ws : List Write) (at : ℕ) (shown : Option ℕ) : Type 0 where
  pub byte : ℕ
  pub is : shown ≡ Some byte
  pub left : IsLastByte ws at byte

-- ---- claims

-- a range, which has pages of 4096 bytes from its base on, has so many bytes from the address on
abbrev pub HasBytes : BarPlan → (address bytes : ℕ) → Type 0
HasBytes range address bytes = (range.base ≤ address) × (address + bytes ≤ range.base + 4096 * range.pages)

-- The interface at this place has memory space on, and the range of this BAR has all bytes of the double words.
pub record MayClaim (xs : List InterfaceStatus) (s : Span) (place bar : ℕ) : Type 0 where
  pub status : InterfaceStatus
  pub stands : slice_get xs place ≡ Some status
  pub memory_space : status.memory_space ≡ true
  pub range : BarPlan
  pub at_bar : slice_get status.bars bar ≡ Some range
  pub has : HasBytes range s.address (4 * s.length)

-- the claim is by the first such interface, and its first such BAR
pub record IsLeastClaim (xs : List InterfaceStatus) (s : Span) (c : Claim) : Type 0 where
  pub interface : slice_get xs c.interface ≡ Some c.status
  pub memory_space : c.status.memory_space ≡ true
  pub bar : slice_get c.status.bars c.bar ≡ Some c.range
  pub has : HasBytes c.range s.address (4 * s.length)
  pub least : (place b : ℕ) → MayClaim xs s place b → (c.interface < place) ⊎ ((place ≡ c.interface) × (c.bar ≤ b))

-- and there is no claim only if there is no such interface
pub record ClaimsLeast (xs : List InterfaceStatus) (s : Span) : Type 0 where
  pub some : (c : Claim) → claim_of xs s ≡ Some c → IsLeastClaim xs s c
  pub none : claim_of xs s ≡ None → (place b : ℕ) → MayClaim xs s place b → ⊥
