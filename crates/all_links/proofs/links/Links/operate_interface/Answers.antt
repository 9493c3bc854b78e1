use Rattle.all_links.proofs.Terms.{ap, refl, sym, subst, ◌∙◌, ◌+◌, List, Links, Interface, Option, IsSome, Verdict, ℕ}
use Rattle.interface_ends.specs.Keepers.{Ended}
use Rattle.all_links.proofs.Asked.{asked_nowhere, operated_as}
use Rattle.all_links.proofs.Finds.{ends_as, if_some, some_none}
use Rattle.all_links.proofs.Places.{asked_place}
use Rattle.all_links.specs.Interfaces.{interface_named}
use Rattle.all_links.proofs.BesideAfter.{nothing_asked, asked_beside}
use Rattle.all_links.proofs.links.Links.operate_interface.Goals as goal

pub carry_interface-outcome-requires : goal.carry_interface-outcome-requires
carry_interface-outcome-requires c = record { here = sym c.in-Some.is ∙ c.requires.here }

pub returns-in-None-clause-ends : goal.returns-in-None-clause-ends
returns-in-None-clause-ends c plan event same =
    asked_nowhere plan c.args.number c.args.op c.args.loss event same (sym c.in-None.is ∙ c.requires.here)
    c.only.ensures.value
    c.only.ensures.links c.requires.bounded

pub returns-in-Some-clause-ends : goal.returns-in-Some-clause-ends
returns-in-Some-clause-ends c plan event same =
    let after : Links = c.carry_interface-outcome.new.self in
    ends_as plan c.asked_verdict.result c.args.self.now (record after { steps = after.steps + 1 }) (Interface event)
    (λ verdict is. operated_as plan c.args.self.now c.args.number c.in-Some.at c.args.op
    c.args.loss c.carry_interface-outcome.result after.ends after.keeper (record after { steps = after.steps + 1 })
    verdict c.new-none.result event same (sym c.in-Some.is ∙ c.requires.here) c.carry_interface-outcome.ensures.asks
    (sym c.asked_verdict.ensures ∙ is)
    (λ e same. c.new-none.ensures ∙ c.new.ensures.items ∙ sym (ap (λ (f : Ended → List ℕ). f e) c.requires.short))
    (ap (λ (s : Links). record s { steps = s.steps + 1 }) c.carry_interface-outcome.ensures.links) c.requires.bounded)
    (λ none stands answered. some_none
    (c.carry_interface-outcome.ensures.answered
    (subst (λ (o : Option Verdict). IsSome o) same (answered event refl)) c.new-none.result)
    (sym c.asked_verdict.ensures ∙ none))

pub returns-in-None-clause-sides : goal.returns-in-None-clause-sides
returns-in-None-clause-sides c =
    nothing_asked c.args.number c.args.op c.args.loss (sym c.in-None.is ∙ c.requires.here) c.only.ensures.links

pub returns-in-Some-clause-sides : goal.returns-in-Some-clause-sides
returns-in-Some-clause-sides c =
    let after : Links = c.carry_interface-outcome.new.self in
    if_some c.asked_verdict.result _
    (λ verdict is. asked_beside c.args.self.now (record after { steps = after.steps + 1 }) c.args.number
    c.in-Some.at c.args.op c.args.loss c.carry_interface-outcome.result after.ends after.keeper
    (sym c.in-Some.is ∙ c.requires.here) c.carry_interface-outcome.ensures.asks
    (ap (λ (s : Links). record s { steps = s.steps + 1 }) c.carry_interface-outcome.ensures.links))

pub returns-in-None-clause-place : goal.returns-in-None-clause-place
returns-in-None-clause-place c = ap (λ (s : Links). interface_named s.keeper.interfaces s.ends.links c.args.number)
    c.only.ensures.links ∙ sym c.requires.here

pub returns-in-Some-clause-place : goal.returns-in-Some-clause-place
returns-in-Some-clause-place c =
    let after : Links = c.carry_interface-outcome.new.self in
    asked_place c.args.self.now c.args.number c.in-Some.at c.args.op c.args.loss c.carry_interface-outcome.result
    after.ends after.keeper (sym c.in-Some.is ∙ c.requires.here) c.carry_interface-outcome.ensures.asks
    ∙ sym c.requires.here
