use Rattle.std.proofs.Common.{◌∙◌}
use Rattle.ide_prefix.proofs.Parts.{joined_bodies}
use Rattle.ide_prefix.proofs.unit_buf.UnitBuf.body.Goals as goal

pub returns-clause-value : goal.returns-clause-value
returns-clause-value c = rw (← c.self.view_is)
    (c.deref.ensures.value ∙ joined_bodies _ c.self.inside.bodies.items _ _ c.self.invariant.rising)
