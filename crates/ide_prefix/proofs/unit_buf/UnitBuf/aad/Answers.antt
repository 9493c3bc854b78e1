use Rattle.std.proofs.Common.{◌∙◌}
use Rattle.ide_prefix.proofs.Parts.{joined_heads}
use Rattle.ide_prefix.proofs.unit_buf.UnitBuf.aad.Goals as goal

pub returns-clause-value : goal.returns-clause-value
returns-clause-value c = rw (← c.self.view_is)
    (c.deref.ensures.value ∙ joined_heads c.self.inside.heads.items _ _ _ c.self.invariant.rising)
