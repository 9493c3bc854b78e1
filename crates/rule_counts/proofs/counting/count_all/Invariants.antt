use Rattle.std.proofs.Common.{◌≡◌, drop, map}
use Rattle.rule_counts.specs.Counting.{counted_all}
use Rattle.rule_counts.proofs.counting.count_all.Given as goal

abbrev pub invariant-loop-rule : goal.invariant-loop-rule
invariant-loop-rule l = counted_all (map (λ s. s.now) (drop l.rule-index l.told)) l.counts.items
    ≡ counted_all (map (λ s. s.now) l.told) l.fn.counts.items
