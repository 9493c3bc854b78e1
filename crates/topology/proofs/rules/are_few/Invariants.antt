use Rattle.std.proofs.Common.{◌≡◌, drop, nat_le}
use Rattle.topology.specs.Rules.{interface_count}
use Rattle.topology.proofs.rules.are_few.Given as goal

abbrev pub invariant-loop-link : goal.invariant-loop-link
invariant-loop-link l =
    nat_le (interface_count (drop l.link-index l.links)) l.room ≡ nat_le (interface_count l.links) l.limit
