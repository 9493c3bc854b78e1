use Rattle.std.proofs.Common.{◌∙◌, ap, Ok, Option}
use Rattle.toml.specs.Data.{Members}
use Rattle.topology.specs.Meaning.{plan_of_document}
use Rattle.topology.proofs.MigratedPlan.{plan_is}
use Rattle.topology.proofs.migration.migrated_plan.Goals as goal

pub returns : goal.returns
returns c bytes text m =
    let there = (plan_is m.table).given m.plan m.means in
    ap (λ (d : Option Members). plan_of_document d) m.migrates ∙ (there.1 ∙ ap (λ p. Ok p) there.2)
