use Rattle.std.proofs.Common.{length, sym, ap, ◌∙◌}
use Rattle.ide_prefix.specs.CollectedUnits.{Collected}
use Rattle.ide_prefix.proofs.Parts.{length-parts}
use Rattle.ide_prefix.proofs.unit_buf.UnitBuf.count.Goals as goal

pub returns-clause-count : goal.returns-clause-count
returns-clause-count c = c.len.ensures.value ∙ sym (length-parts _ _ _ _ c.self.inside.ends.items)
    ∙ ap (λ (u : Collected). length u.packets) c.self.view_is
