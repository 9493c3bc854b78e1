use Rattle.all_ends.proofs.Terms.{◌≡◌, drop}
use Rattle.all_ends.specs.Ends.{all_cleared}
use Rattle.all_ends.proofs.all_ends.AllEnds.clear_all.Given as goal

abbrev pub invariant-loop-end : goal.invariant-loop-end
invariant-loop-end l = all_cleared l.initial.self l.ends ≡ all_cleared l.self (drop l.end-index l.ends)
