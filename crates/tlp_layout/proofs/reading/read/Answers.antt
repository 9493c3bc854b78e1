use Rattle.tlp_layout.proofs.Readings.{read_again, read_is}
use Rattle.tlp_layout.proofs.reading.read.Goals as goal

pub returns-clause-only : goal.returns-clause-only
returns-clause-only c = read_again c.args.bytes.now _ c.whole.ensures.ok c.whole.ensures.err

pub returns-clause-reading : goal.returns-clause-reading
returns-clause-reading c = read_is c.args.bytes.now _ c.whole.ensures.ok c.whole.ensures.err
