use Rattle.interface_state.proofs.BarRanges.{Reported}
use Rattle.interface_state.proofs.bars.reported_bytes.Given as goal

abbrev pub invariant-loop-i : goal.invariant-loop-i
invariant-loop-i l = Reported l.offset l.bars l.out.items l.i
