use Rattle.std.proofs.Common.{[], sym, subst}
use Rattle.rule_counts.specs.Coverage.{CoverageView, IsCoverage}
use Rattle.rule_counts.proofs.Covered.{none_covered}
use Rattle.rule_counts.proofs.coverage.Coverage.new.Goals as goal

pub returns : goal.returns
returns c plan =
    subst (λ (v : CoverageView). IsCoverage plan v [])
    (λ i. record { counts = sym c.in_ok-counts.ensures.items i; forged = 0; seals = sym c.new.ensures i })
    (none_covered plan)
