use Rattle.all_ends.proofs.Terms.{◌≡◌, ◌++◌, drop}
use Rattle.all_ends.specs.Ends.{ends_from}
use Rattle.all_ends.proofs.making.link_ends.Given as goal

abbrev pub invariant-loop-link : goal.invariant-loop-link
invariant-loop-link l =
    (ends_from l.limit 0 l.links ≡ l.made.items ++ ends_from l.limit l.number (drop l.link-index l.links))
    × (l.number ≡ l.link-index)
