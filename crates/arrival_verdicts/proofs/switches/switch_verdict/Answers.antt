use Rattle.std.proofs.Common.{◌∙◌, ap, List}
use Rattle.event_verdicts.specs.declared.verdict.Effect.{Effect}
use Rattle.event_verdicts.specs.declared.verdict.UnitName.{UnitName}
use Rattle.arrival_verdicts.specs.Verdicts.{arrival_verdict}
use Rattle.arrival_verdicts.specs.Switches.{switched_each}
use Rattle.arrival_verdicts.proofs.Units.{with_unit}
use Rattle.arrival_verdicts.proofs.switches.switch_verdict.Goals as goal

pub returns-clause-verdict : goal.returns-clause-verdict
returns-clause-verdict c =
    c.verdict_with.ensures
    ∙ ap (λ (es : List Effect). arrival_verdict c.args.end c.args.port c.args.arrival (λ (unit : UnitName). es))
    c.unit_switched-effects.ensures.effects
    ∙ with_unit c.args.end c.args.port c.args.arrival (λ (unit : UnitName). switched_each c.args.packets.now)
