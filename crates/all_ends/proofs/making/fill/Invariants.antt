use Rattle.all_ends.proofs.Terms.{◌≡◌, ◌-◌, ◌≤◌, length}
use Rattle.arrival_verdicts.specs.{in_eight}
use Rattle.all_ends.proofs.making.fill.Given as goal

abbrev pub invariant-loop-alloc : goal.invariant-loop-alloc
invariant-loop-alloc l = (in_eight l.rows.items ≡ in_eight l.initial.rows.items) × (length l.rows.items ≤ 8)

abbrev pub decreases-loop-alloc : goal.decreases-loop-alloc
decreases-loop-alloc l = 8 - length l.rows.items
