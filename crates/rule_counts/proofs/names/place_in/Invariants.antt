use Rattle.std.proofs.Common.{◌≡◌, ◌+◌, drop, map}
use Rattle.rule_counts.specs.Counting.{place_in}
use Rattle.rule_counts.proofs.names.place_in.Given as goal

abbrev pub invariant-loop-i : goal.invariant-loop-i
invariant-loop-i l = place_in (map (λ s. s.now) (drop l.i l.names)) l.rule + l.i
    ≡ place_in (map (λ s. s.now) l.names) l.rule
