use Rattle.all_links.proofs.Terms.{ap, refl, sym, ◌∙◌, ◌++◌, ◌+◌, InterfacesView, Links, Interface}
use Rattle.script_events.specs.declared.event.InterfaceEvent.TheVariants as ie
use Rattle.interface_host.specs.declared.operation.InterfaceOperation.TheVariants as op
use Rattle.all_links.proofs.Asked.{asked_nowhere, operated_as}
use Rattle.all_links.proofs.Finds.{ends_as, if_some, some_none}
use Rattle.all_links.proofs.BesideAfter.{nothing_asked, asked_beside}
use Rattle.all_links.proofs.links.Links.report.Goals as goal

pub returns-in-None-clause-ends : goal.returns-in-None-clause-ends
returns-in-None-clause-ends c plan =
    asked_nowhere plan c.args.number op.Report c.args.loss (ie.Report c.args.number c.args.loss) refl
    c.in-None.ensures.place
    c.only.ensures.value c.only.ensures.links c.requires.bounded

pub returns-in_ok-report-in-Some-clause-ends : goal.returns-in_ok-report-in-Some-clause-ends
returns-in_ok-report-in-Some-clause-ends c plan =
    let after : Links = c.carry_interface-outcome.new.self in
    let event = ie.Report c.args.number c.args.loss in
    ends_as plan c.asked_verdict.result c.args.self.now (record after { steps = after.steps + 1 }) (Interface event)
    (λ verdict is. operated_as plan c.args.self.now c.args.number c.in-Some.at op.Report
    c.args.loss
    c.carry_interface-outcome.result after.ends after.keeper (record after { steps = after.steps + 1 }) verdict
    c.new-report.result event refl c.in-Some.ensures.place c.carry_interface-outcome.ensures.asks
    (sym c.asked_verdict.ensures ∙ is)
    (λ e same. c.new-report.ensures ∙ (rw c.unwrap.ensures at c.extend_from_slice.ensures.items)
    ∙ (λ i. c.in_ok-report-in-Some.ensures.items i ++
    (c.report.ensures.value ∙ ap (λ (m : InterfacesView). m.read.bytes) (c.manager.ensures ∙ same)) i))
    (ap (λ (s : Links). record s { steps = s.steps + 1 }) c.carry_interface-outcome.ensures.links) c.requires.bounded)
    (λ none stands answered. some_none
    (c.carry_interface-outcome.ensures.answered (answered event refl) c.new-report.result)
    (sym c.asked_verdict.ensures ∙ none))

pub returns-in-None-clause-sides : goal.returns-in-None-clause-sides
returns-in-None-clause-sides c =
    nothing_asked c.args.number op.Report c.args.loss c.in-None.ensures.place c.only.ensures.links

pub returns-in_ok-report-in-Some-clause-sides : goal.returns-in_ok-report-in-Some-clause-sides
returns-in_ok-report-in-Some-clause-sides c =
    let after : Links = c.carry_interface-outcome.new.self in
    if_some c.asked_verdict.result _
    (λ verdict is. asked_beside c.args.self.now (record after { steps = after.steps + 1 }) c.args.number
    c.in-Some.at op.Report c.args.loss c.carry_interface-outcome.result after.ends after.keeper
    c.in-Some.ensures.place c.carry_interface-outcome.ensures.asks
    (ap (λ (s : Links). record s { steps = s.steps + 1 }) c.carry_interface-outcome.ensures.links))
