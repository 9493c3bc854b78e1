use Rattle.std.proofs.Common.{◌∙◌, ap}
use Rattle.ide_types.specs.declared.plan.Plan.{Plan}
use Rattle.link_stores.specs.{new_accesses}
use Rattle.whole_links.proofs.whole.WholeLinks.make.Goals as goal

pub returns : goal.returns
returns c = record {
  links = c.in_ok-links.ensures;
  accesses = c.in_ok-accesses.ensures ∙ ap (λ (p : Plan). new_accesses p.links) c.plan.ensures.value;
}
