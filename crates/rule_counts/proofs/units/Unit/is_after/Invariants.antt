use Rattle.std.proofs.Common.{◌≡◌, ◌++◌, ◌∷◌, ◌≤◌, [], drop}
use Rattle.ide_prefix.specs.Cut.{packet_of_view}
use Rattle.spec_links.specs.Plan.{lane_in}
use Rattle.rule_counts.specs.Units.{is_unit_after}
use Rattle.rule_counts.proofs.units.Unit.is_after.Given as goal

-- what is left says the same
abbrev pub invariant-loop-i : goal.invariant-loop-i
invariant-loop-i l =
    let unit = l.self.held ++ packet_of_view l.self.last ∷ [] in
    let lane = lane_in l.lane.end l.lane.stream l.lane.sub in
    (is_unit_after lane l.draw l.left (drop l.place unit) (drop l.i l.described) (drop l.i l.kept.packets)
    ≡ is_unit_after lane l.draw l.units unit l.described l.kept.packets)
    × (l.place ≤ l.i)
