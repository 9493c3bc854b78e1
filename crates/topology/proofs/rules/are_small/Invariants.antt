use Rattle.std.proofs.Common.{◌≡◌, drop, nat_le, sum_by}
use Rattle.topology.proofs.rules.are_small.Given as goal

abbrev pub invariant-loop-region : goal.invariant-loop-region
invariant-loop-region l = nat_le (sum_by (λ r. r.size) (drop l.region-index l.regions)) l.room
    ≡ nat_le (sum_by (λ r. r.size) l.regions) 16777216
