use Rattle.std.proofs.Common.{◌≡◌, ◌+◌, ◌≤◌, drop}
use Rattle.std.specs.Prelude.{count_by}
use Rattle.spec_links.specs.Plan.{lane_in}
use Rattle.rule_counts.specs.Units.{ends_between}
use Rattle.rule_counts.proofs.lanes.Lane.units_between.Given as goal

-- those so far and those that are left
abbrev pub invariant-loop-packet : goal.invariant-loop-packet
invariant-loop-packet l =
    (l.units + count_by (ends_between (lane_in l.self.end l.self.stream l.self.sub) l.from l.below)
    (drop l.packet-index l.packets)
    ≡ count_by (ends_between (lane_in l.self.end l.self.stream l.self.sub) l.from l.below) l.packets)
    × (l.units ≤ l.packet-index)
