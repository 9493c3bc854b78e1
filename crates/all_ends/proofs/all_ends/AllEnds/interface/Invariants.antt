use Rattle.all_ends.proofs.Terms.{◌≡◌, drop}
use Rattle.all_ends.specs.Places.{place_on_links}
use Rattle.all_ends.proofs.all_ends.AllEnds.interface.Given as goal

abbrev pub invariant-loop-ends : goal.invariant-loop-ends
invariant-loop-ends l =
    (place_on_links 0 l.number l.self.links ≡ place_on_links l.link l.left (drop l.ends-index l.self.links))
    × (l.link ≡ l.ends-index)
