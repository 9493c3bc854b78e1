use Rattle.std.proofs.Common.{List, ◌++◌, ap, subst, ◌∙◌}
use Rattle.ide_types.specs.declared.plan.Plan.{Plan}
use Rattle.told_facts.specs.declared.fact.Fact.{Fact}
use Rattle.world.specs.{WorldStandsFor, WorldView, world_of}
use Rattle.ide_why.specs.Facts.{facts_read}
use Rattle.ide_why.proofs.Read.{read_is}
use Rattle.ide_why.proofs.events.facts.Goals as goal

pub returns : goal.returns
returns c h stood =
    let kept : WorldStandsFor (world_of c.args.world.now.plan c.links.result.now) h =
    subst (λ (w : WorldView). WorldStandsFor w h) c.links.ensures.kept stood in
    c.in_ok-push_event.ensures
    ∙ ap (λ (xs : List Fact). xs ++ facts_read c.plan.result.now c.links.result.now c.args.event.now)
    c.new-facts.ensures.items
    ∙ ap (λ (plan : Plan). facts_read plan c.links.result.now c.args.event.now) c.plan.ensures.plan
    ∙ read_is c.args.world.now.plan c.links.result.now c.links.ensures.world.links c.links.ensures.world.bounded.whole
    h kept c.args.event.now
    ∙ c.facts_stand.ensures c.args.world.now.plan kept.whole h c.args.event.now kept.stands
