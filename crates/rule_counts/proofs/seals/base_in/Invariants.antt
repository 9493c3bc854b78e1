use Rattle.std.proofs.Common.{◌≡◌, drop}
use Rattle.rule_counts.specs.Seals.{base_after}
use Rattle.rule_counts.proofs.seals.base_in.Given as goal

abbrev pub invariant-loop-base : goal.invariant-loop-base
invariant-loop-base l = base_after l.found (drop l.base-index l.bases) l.line l.stream
    ≡ base_after 0 l.bases l.line l.stream
