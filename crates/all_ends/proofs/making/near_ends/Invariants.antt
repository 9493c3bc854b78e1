use Rattle.all_ends.proofs.Terms.{◌≡◌, ◌+◌, ◌++◌, drop}
use Rattle.all_ends.specs.Ends.{near_from}
use Rattle.all_ends.proofs.making.near_ends.Given as goal

abbrev pub invariant-loop-streams : goal.invariant-loop-streams
invariant-loop-streams l =
    (near_from l.limit 8 l.rows ≡ l.made.items ++ near_from l.limit l.line (drop l.streams-index l.rows))
    × (l.line ≡ 8 + l.streams-index)
