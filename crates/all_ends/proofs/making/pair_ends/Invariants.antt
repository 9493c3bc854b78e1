use Rattle.all_ends.proofs.Terms.{◌≡◌, ◌+◌, ◌++◌, drop}
use Rattle.all_ends.specs.Ends.{pairs_from}
use Rattle.all_ends.proofs.making.pair_ends.Given as goal

abbrev pub invariant-loop-streams : goal.invariant-loop-streams
invariant-loop-streams l =
    (pairs_from l.limit 16 l.rows ≡ l.made.items ++ pairs_from l.limit l.line (drop l.streams-index l.rows))
    × (l.line ≡ 16 + l.streams-index)
