use Rattle.ide_prefix.proofs.Cuts.{cut_again, cut_is}
use Rattle.ide_prefix.proofs.cutting.cut.Goals as goal

pub returns-clause-only : goal.returns-clause-only
returns-clause-only c = cut_again c.args.bytes.now _ c.whole.ensures.ok c.whole.ensures.err

pub returns-clause-reading : goal.returns-clause-reading
returns-clause-reading c = cut_is c.args.bytes.now _ c.whole.ensures.ok c.whole.ensures.err
