use Rattle.all_ends.proofs.Terms.{◌≡◌, ◌≤◌, drop}
use Rattle.std.specs.Option.{option_and_then}
use Rattle.all_ends.specs.Places.{number_on_links, small_number}
use Rattle.all_ends.proofs.Numbers.{behind}
use Rattle.all_ends.proofs.all_ends.AllEnds.number.Given as goal

abbrev pub invariant-loop-ends : goal.invariant-loop-ends
invariant-loop-ends l =
    (option_and_then small_number (number_on_links l.self.links l.link l.place)
    ≡ behind l.before (number_on_links (drop l.ends-index l.self.links) l.left l.place))
    × (l.before ≤ 255)
