use Rattle.std.proofs.Common.{◌≡◌, drop}
use Rattle.tlp_layout.specs.Ways.{test_of}
use Rattle.tlp_layout.proofs.Least.{least_from}
use Rattle.tlp_layout.proofs.choosing.least_by.Given as goal

abbrev pub invariant-loop-place : goal.invariant-loop-place
invariant-loop-place l = l.least ≡ least_from l.way (test_of l.way l.side l.tlp) (drop l.place l.streams) l.place
