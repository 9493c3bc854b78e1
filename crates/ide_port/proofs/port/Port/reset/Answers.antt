use Rattle.ide_port.proofs.Terms.{[], map, ap, ◌∙◌, reset_port}
use Rattle.ide_port.proofs.Streams.{state_of, resets}
use Rattle.ide_port.proofs.Keeping.{lends-none}
use Rattle.ide_port.proofs.port.Port.reset.Goals as goal

pub invariant_of-self : goal.invariant_of-self
invariant_of-self c = record {
  each = rw c.reset_streams.ensures (resets _ _ _ _ c.self.invariant.each).each;
  lends = lends-none _;
}

pub returns : goal.returns
returns c =
    (λ i. record {
      name = c.self.inside.name;
      plans = c.self.inside.plans;
      limit = c.self.inside.limit;
      states = (ap (map state_of) c.reset_streams.ensures ∙
          (resets _ _ c.self.inside.plans c.self.inside.streams.items c.self.invariant.each).states) i;
      delivered = [];
    })
    ∙ ap reset_port c.self.view_is
