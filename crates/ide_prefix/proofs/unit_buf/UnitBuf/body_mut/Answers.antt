use Rattle.std.proofs.Common.{refl, arith, ◌∙◌}
use Rattle.ide_prefix.proofs.Parts.{joined_bodies}
use Rattle.ide_prefix.proofs.Views.{view-packets_with_bodies}
use Rattle.ide_prefix.proofs.unit_buf.UnitBuf.body_mut.Goals as goal

pub returns : goal.returns
returns c = (
  (
    refl,
    λ w. view-packets_with_bodies _ _ _ _ _ w _ c.args.self.now c.self.view_is c.self.invariant.rising
        c.self.inside.bodies.ok.0,
  ),
  record {
    writes_back = tt;
    value = rw (← c.self.view_is)
        (c.as_mut_slice.ensures.value ∙ joined_bodies c.self.inside.heads.items _ _ _ c.self.invariant.rising);
    short = let p = c.self.invariant in let e = c.as_mut_slice.ensures in rw e.value
        (omega (arith, p.bodies_fit, p.packets_fit, p.aggregation_fits));
  },
)
