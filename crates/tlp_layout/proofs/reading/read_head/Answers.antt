use Rattle.tlp_layout.proofs.Readings.{read_head_again, read_head_is}
use Rattle.tlp_layout.proofs.reading.read_head.Goals as goal

pub returns-clause-only : goal.returns-clause-only
returns-clause-only c = read_head_again c.args.bytes.now _ c.whole_head.ensures.ok c.whole_head.ensures.err

pub returns-clause-reading : goal.returns-clause-reading
returns-clause-reading c = read_head_is c.args.bytes.now _ c.whole_head.ensures.ok c.whole_head.ensures.err
