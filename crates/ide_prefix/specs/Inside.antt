-- What the reader's inner functions show of the bytes.
use Rattle.std.specs.Prelude.{◌≡◌, ℕ, ◌+◌, ◌<◌, ◌≤◌, true, false, List, length, take, drop, slice_index, if◌then◌else◌}
use Rattle.std.specs.Prelude.{Option, Some, None}
use Rattle.tlp_layout.specs.declared.fault.TlpFault.{TlpFault}
use Rattle.tlp_layout.specs.declared.head.HeadView.{HeadView}
use Rattle.tlp_layout.specs.declared.fault.TlpFault.TheVariants as tlps
use Rattle.tlp_layout.specs.Head.{SpellsHead}
use Rattle.tlp_layout.specs.Causes.{head_size}
use Rattle.tlp_layout.specs.Faults.{IsHeadFault}
use Rattle.tlp_layout.specs.Reading.{rest_size}
use Rattle.ide_prefix.specs.declared.fault.PacketFault.{PacketFault}
use Rattle.ide_prefix.specs.declared.fault.PacketFault.TheVariants.{Short, Tlp}
use Rattle.ide_prefix.specs.Packet.{begins_sync}
use Rattle.ide_prefix.specs.Causes.{prefix_read, fits_early, clear_size, fault_after_prefix, packet_fault_at}

-- the bytes go off among the first five
pub record GoesOffEarly (s : List ℕ) (fault : PacketFault) (place : ℕ) : Type 0 where
  pub within : place ≤ length s
  pub early : place < 5
  pub cause : fault ≡ packet_fault_at s place
  pub before : (i : ℕ) → i < place → fits_early i s (slice_index s i) ≡ true
  pub off : place < length s → fits_early place s (slice_index s place) ≡ false

-- a sync packet goes off after byte 4
pub record GoesOffInSync (s : List ℕ) (fault : PacketFault) (place : ℕ) : Type 0 where
  pub within : place ≤ length s
  pub behind : (5 ≤ place) × (place < 16)
  pub cause : fault ≡ packet_fault_at s place
  pub before : (i : ℕ) → 5 ≤ i → i < place → slice_index s i ≡ 0
  pub off : place < length s → slice_index s place ≡ 0 → ⊥

-- a header's fault, as a packet's
abbrev pub packet_fault_of_tlp : TlpFault → PacketFault
packet_fault_of_tlp (tlps.Short place) = Short (place + 4)
packet_fault_of_tlp f = Tlp (fault_after_prefix f)

-- what stands in the header's place
abbrev pub head_slice : List ℕ → List ℕ
head_slice s = take (head_size (slice_index s 4)) (drop 4 s)

abbrev pub GoesOffInHead : List ℕ → PacketFault → Type 0
GoesOffInHead s fault = (f : TlpFault) × IsHeadFault (head_slice s) f × (fault ≡ packet_fault_of_tlp f)

-- after the prefix stands this header, or a sync packet's bytes
abbrev pub IsInClear : List ℕ → Option HeadView → Type 0
IsInClear s None = begins_sync (prefix_read s).sub (slice_index s 4) ≡ true
IsInClear s (Some head) = (begins_sync (prefix_read s).sub (slice_index s 4) ≡ false) × SpellsHead head (head_slice s)

-- the length of that, and of the payload
pub record SizesAre (s : List ℕ) (tlp : Option HeadView) (size wanted : ℕ) : Type 0 where
  pub size_is : size ≡ clear_size (prefix_read s).sub (slice_index s 4)
  pub within : 4 + size ≤ length s
  pub wanted_is : wanted ≡ (if begins_sync (prefix_read s).sub (slice_index s 4) then 0 else rest_size (drop 4 s))
  pub small : wanted ≤ 4096
  pub zeros : begins_sync (prefix_read s).sub (slice_index s 4) ≡ true → (i : ℕ) → 5 ≤ i → i < 16 → slice_index s i ≡ 0
  pub in_clear : IsInClear s tlp
