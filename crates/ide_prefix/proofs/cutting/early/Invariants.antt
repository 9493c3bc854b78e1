use Rattle.std.proofs.Common.{◌≡◌, ℕ, ◌<◌, ◌≤◌, true, length, get_or}
use Rattle.ide_prefix.specs.Causes.{fits_early}
use Rattle.ide_prefix.proofs.cutting.early.Given as goal

abbrev pub invariant-loop-place : goal.invariant-loop-place
invariant-loop-place l = record {
  within : l.place ≤ length l.bytes;
  fits : (i : ℕ) → i < l.place → fits_early i l.bytes (get_or l.bytes i 0) ≡ true;
}
