use Rattle.aes_block.proofs.Halves.{joined-is}
use Rattle.aes_block.proofs.pairs.side_by_side.Goals as goal

pub returns-clause-both : goal.returns-clause-both
returns-clause-both c = joined-is c.args.a c.args.b c.fits-a.0 c.fits-b.0

pub returns-clause-long : goal.returns-clause-long
returns-clause-long c = (c.fits-a.0, c.fits-b.0)
