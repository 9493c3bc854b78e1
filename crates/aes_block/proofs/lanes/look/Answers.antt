use Rattle.aes_block.proofs.Places.{looked, may_look}
use Rattle.aes_block.proofs.lanes.look.Goals as goal

pub swizzle : goal.swizzle
swizzle c = may_look c.args.at c.fits-at.0 c.requires

pub returns : goal.returns
returns c = looked c.args.table c.args.at c.fits-at.0
