use Rattle.topology.proofs.EqualKeys.{Looked}
use Rattle.topology.proofs.pairs.equal_keys.Given as goal

abbrev pub invariant-loop-i : goal.invariant-loop-i
invariant-loop-i l = Looked l.keys l.places l.pair l.i

abbrev pub decreases-loop-i : goal.decreases-loop-i
decreases-loop-i l = l.i
