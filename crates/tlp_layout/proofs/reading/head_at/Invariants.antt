use Rattle.std.proofs.Common.{◌≤◌, length}
use Rattle.tlp_layout.specs.Inside.{Agrees}
use Rattle.tlp_layout.proofs.reading.head_at.Given as goal

abbrev pub invariant-loop-place : goal.invariant-loop-place
invariant-loop-place l = record { within : l.place ≤ length l.bytes; agrees : Agrees l.layout l.bytes l.place }
