use Rattle.std.proofs.Common.{Bool, ◌&&◌, ap, sym, ◌∙◌, subst}
use Rattle.machine_whole.specs.Machine.{arrival_of}
use Rattle.spec_links.specs.Due.{due}
use Rattle.world.specs.{WorldStandsFor, WorldView, links_state}
use Rattle.rule_counts.specs.Coverage.{CoverageView}
use Rattle.rule_counts.specs.Seals.{AreSeals}
use Rattle.rule_counts.specs.Unsealed.{is_verified_by, unsealed_arrival}
use Rattle.rule_counts.proofs.Covered.{forged_is}
use Rattle.rule_counts.proofs.coverage.Coverage.look.Goals as goal

pub returns : goal.returns
returns c h stood are =
    let plan = c.args.world.now.plan in
    let s = c.links.result.now in
    let e = c.args.event.now in
    let seals = c.self.inside.seals in
    let here = subst (λ (v : CoverageView). AreSeals plan v.seals h) (sym c.self.view_is) are in
    let kept = subst (λ (w : WorldView). WorldStandsFor w h) c.links.ensures.kept stood in
    record {
      rule_is = c.in_ok-facts.ensures h stood;
      forged_is =
          ap (λ (b : Bool). b && is_verified_by (due plan h e))
          (c.in_ok-unsealed.ensures
          ∙ (λ i. unsealed_arrival seals s
          (arrival_of (c.plan.ensures.plan i) (links_state (c.plan.ensures.plan i) s.links) e)))
          ∙ forged_is plan c.plan.ensures.fits s c.links.ensures.world.links h kept seals here e;
      draws_are = c.draws.ensures h stood;
    }
