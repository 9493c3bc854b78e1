use Rattle.std.proofs.Common.{◌≡◌, drop}
use Rattle.interface_state.specs.Bars.{any_overlap}
use Rattle.interface_state.proofs.bars.any_overlap.Given as goal

abbrev pub invariant-loop-i : goal.invariant-loop-i
invariant-loop-i l = any_overlap (drop l.i l.bars) ≡ any_overlap l.bars
