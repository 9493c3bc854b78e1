use Rattle.all_links.proofs.Terms.{◌∙◌, List, ap, refl, Plan, Region}
use Rattle.trusted_memory.specs.{new_memory}
use Rattle.line_arrivals.specs.{HostKeeper}
use Rattle.all_links.proofs.links.Links.make.Goals as goal

pub returns : goal.returns
returns c = record {
  ends = c.in_ok-ends.ensures;
  keys = ap (λ (k : HostKeeper). k.keys) c.in_ok-keeper.ensures;
  interfaces = ap (λ (k : HostKeeper). k.interfaces) c.in_ok-keeper.ensures;
  peer_draws = ap (λ (k : HostKeeper). k.peer_draws) c.in_ok-keeper.ensures;
  packets = c.new-packets.ensures;
  trusted = c.in_ok-trusted.ensures.new ∙ ap (λ (rs : List Region). new_memory rs) c.as_slice.ensures
      ∙ ap (λ (p : Plan). new_memory p.memory) c.plan.ensures.value;
  steps = refl;
}
