-- The place of a fault is within the bytes.
use Rattle.std.proofs.Common.{◌≡◌, ℕ, ◌+◌, ◌-◌, ◌≤◌, ◌==◌, Bool, true, false, List, length, Err, slice_index, refl, ap}
use Rattle.std.proofs.Common.{arith}
use Rattle.std.specs.Prelude.{if◌then◌else◌, nat_lt, is_some, ◌/◌, ◌%◌}
use Rattle.std.proofs.lemmas.Bool.Decides.{nat_tests}
use Rattle.tlp_layout.specs.declared.fault.TlpFault.{TlpFault}
use Rattle.tlp_layout.specs.declared.fault.TlpFault.TheVariants as tlps
use Rattle.tlp_layout.specs.Reading.{read_of}
use Rattle.tlp_layout.specs.Causes.{cause_at, fault_at, head_size}
use Rattle.tlp_layout.specs.Class.{kind_of_byte}
use Rattle.tlp_layout.specs.Faults.{place_in}
use Rattle.tlp_layout.proofs.Readings.{read_refuses}
use Rattle.ide_prefix.specs.declared.fault.PacketFault.{PacketFault}
use Rattle.ide_prefix.specs.declared.fault.PacketFault.TheVariants as packets
use Rattle.ide_prefix.specs.Packet.{begins_sync}
use Rattle.ide_prefix.specs.Causes.{clear_size, early_cause, late_cause, fault_after_prefix, packet_fault_at}
use Rattle.ide_prefix.specs.Causes.{prefix_read}
use Rattle.ide_prefix.specs.Faults.{packet_place}
use Rattle.ide_prefix.specs.Reading.{cut_of}
use Rattle.ide_prefix.proofs.Cuts.{refuses_iff}

cause_within : (place b : ℕ) → place_in (cause_at place b) ≤ place
cause_within place b = by_tests (place == 2) (place == 3) (nat_lt b 64) refl refl
  where
    by_tests : (two three low : Bool) → (place == 2) ≡ two → (place == 3) ≡ three
        → place_in (if two then (if low then tlps.Length 2 else tlps.Bit 2) else if three then tlps.Length 3 else
        tlps.Bit place) ≤ place
    by_tests true three true is other = grind (arith, nat_tests)
    by_tests true three false is other = grind (arith, nat_tests)
    by_tests false true low is other = grind (arith, nat_tests)
    by_tests false false low is other = omega arith

fault_within : (s : List ℕ) (place : ℕ) → place_in (fault_at s place) ≤ place
fault_within s place = by_tests (place == length s) (place == 0) (nat_lt place (head_size (slice_index s 0)))
  where
    by_tests : (short first in_head : Bool)
        → place_in (if short then tlps.Short place else if first then tlps.Kind 0 else if in_head then cause_at place
        (slice_index s place) else tlps.Trailing place) ≤ place
    by_tests true first in_head = omega arith
    by_tests false true in_head = omega arith
    by_tests false false true = cause_within place (slice_index s place)
    by_tests false false false = omega arith

moved_by_four : (f : TlpFault) → place_in (fault_after_prefix f) ≡ place_in f + 4
moved_by_four (tlps.Short place) = refl
moved_by_four (tlps.Kind place) = refl
moved_by_four (tlps.Bit place) = refl
moved_by_four (tlps.Length place) = refl
moved_by_four (tlps.Trailing place) = refl

early_within : (place : ℕ) (s : List ℕ) (b : ℕ) → packet_place (early_cause place s b) ≤ place
early_within place s b = by_tests (place == 1) (place == 4) (b / 8 % 4 == 0) (begins_sync (prefix_read s).sub b)
    (is_some (kind_of_byte b)) refl refl
  where
    by_tests : (one four clear sync kind : Bool) → (place == 1) ≡ one → (place == 4) ≡ four
        → packet_place (if one then (if clear then packets.SubStream 1 else packets.Reserved 1)
        else if four then (if sync then packets.Sync 4 else if kind then packets.Class 4 else packets.Tlp (tlps.Kind 4))
        else packets.Reserved place) ≤ place
    by_tests true four true sync kind is other = grind (arith, nat_tests)
    by_tests true four false sync kind is other = grind (arith, nat_tests)
    by_tests false true clear true kind is other = grind (arith, nat_tests)
    by_tests false true clear false true is other = grind (arith, nat_tests)
    by_tests false true clear false false is other = grind (arith, nat_tests)
    by_tests false false clear sync kind is other = omega arith

late_within : (s : List ℕ) (place : ℕ) → 4 ≤ place → packet_place (late_cause s place) ≤ place
late_within s place behind = by_tests (nat_lt place (4 + clear_size (prefix_read s).sub (slice_index s 4)))
    (begins_sync (prefix_read s).sub (slice_index s 4))
  where
    by_tests : (clear sync : Bool) → packet_place
        (if clear then (if sync then packets.Sync place else packets.Tlp
        (fault_after_prefix (cause_at (place - 4) (slice_index s place)))) else packets.Trailing place) ≤ place
    by_tests true true = omega arith
    by_tests true false = omega (
      arith,
      moved_by_four (cause_at (place - 4) (slice_index s place)),
      cause_within (place - 4)
          (slice_index s place),
    )
    by_tests false sync = omega arith

packet_within : (s : List ℕ) (place : ℕ) → packet_place (packet_fault_at s place) ≤ place
packet_within s place = by_tests (place == length s) (nat_lt place 5) refl
  where
    by_tests : (short early : Bool) → nat_lt place 5 ≡ early
        → packet_place (if short then packets.Short place else if early then early_cause place s (slice_index s place)
        else late_cause s place) ≤ place
    by_tests true early is = omega arith
    by_tests false true is = early_within place s (slice_index s place)
    by_tests false false is = late_within s place (grind (arith, nat_tests))

pub tlp_place : (bytes : List ℕ) (f : TlpFault) → read_of bytes ≡ Err f → place_in f ≤ length bytes
tlp_place bytes f is =
    let found = (read_refuses f bytes).1 is in
    omega (arith, found.1.within, fault_within bytes found.0, ap place_in found.2)

pub cut_place : (bytes : List ℕ) (f : PacketFault) → cut_of bytes ≡ Err f → packet_place f ≤ length bytes
cut_place bytes f is =
    let found = ((refuses_iff f bytes).1 is).1 in
    omega (arith, found.1.within, packet_within bytes found.0, ap packet_place found.2)
