use Rattle.join_ends.specs.Turns.{AccessesTurn, hops_cleared, nothing_happens, same_floors, same_reads}
use Rattle.join_ends.proofs.hops.clear_hops.Given as goal

-- the links before this one are done
abbrev pub invariant-loop-link : goal.invariant-loop-link
invariant-loop-link l =
    AccessesTurn same_reads same_floors nothing_happens (hops_cleared l.ends l.link) l.fn.accesses l.accesses
