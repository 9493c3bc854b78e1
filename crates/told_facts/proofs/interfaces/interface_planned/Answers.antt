use Rattle.std.proofs.Common.{◌<◌, List, length, arith, ap, sym, ◌∙◌}
use Rattle.std.specs.Prelude.{slice_get}
use Rattle.ide_types.specs.declared.interface.InterfacePlan.{InterfacePlan}
use Rattle.told_facts.proofs.Planned.{planned_here}
use Rattle.told_facts.proofs.interfaces.interface_planned.Goals as goal

pub returns-then-behind-interfaces : goal.returns-then-behind-interfaces
returns-then-behind-interfaces c =
    let behind = c.loop-link.behind in
    let link = c.link-item.result in
    let same = c.as_slice-interfaces.ensures in
    let within : behind < length link.interfaces =
    omega (arith, c.if-behind-interfaces.true, ap length c.as_slice-interfaces.ensures) in
    c.interface_at.ensures ∙ ap (λ (xs : List InterfacePlan). slice_get xs behind) same
    ∙ sym (planned_here c.args.links.now c.loop-link.link-index behind link c.loop-link-test.true c.link-item.is within)
    ∙ c.loop-link.invariant
