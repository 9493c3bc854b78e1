use Rattle.std.proofs.Common.{◌∙◌, ap, List, length}
use Rattle.event_verdicts.specs.declared.verdict.Effect.{Effect}
use Rattle.event_verdicts.specs.declared.verdict.UnitName.{UnitName}
use Rattle.link_stores.specs.{device_statuses, reads_on}
use Rattle.arrival_verdicts.specs.Verdicts.{arrival_verdict, effects_from, grants_in}
use Rattle.arrival_verdicts.proofs.Units.{with_unit}
use Rattle.arrival_verdicts.proofs.verdicts.taken_verdict.Goals as goal

pub returns-clause-verdict : goal.returns-clause-verdict
returns-clause-verdict c =
    let end = c.args.at.now.end in
    let port = c.args.at.now.port in
    c.verdict_with.ensures
    ∙ ap (λ (es : List Effect). arrival_verdict end port c.args.arrival (λ (unit : UnitName). es))
    c.unit_effects-effects.ensures.effects
    ∙ with_unit end port c.args.arrival (λ (unit : UnitName). effects_from c.args.memory.now.contents.regions
    (grants_in c.args.at.now.manager.now) (device_statuses c.args.access.now.floors c.args.at.now.interfaces.now)
    (length (reads_on port.side c.args.access.now)) port unit c.args.packets.now)
