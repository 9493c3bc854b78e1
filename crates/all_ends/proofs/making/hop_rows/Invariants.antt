use Rattle.all_ends.proofs.Terms.{◌≡◌, ◌++◌, drop, map}
use Rattle.all_ends.specs.Ends.{hop_row}
use Rattle.all_ends.proofs.making.hop_rows.Given as goal

abbrev pub invariant-loop-link : goal.invariant-loop-link
invariant-loop-link l = map hop_row l.links ≡ l.rows.items ++ map hop_row (drop l.link-index l.links)
