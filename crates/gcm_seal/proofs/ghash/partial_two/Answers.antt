use Rattle.gcm_seal.proofs.Lookups.{high_may_two, low_may_two, products_two}
use Rattle.gcm_seal.proofs.ghash.partial_two.Goals as goal

pub swizzle : goal.swizzle
swizzle c = high_may_two c.args.v c.fits-v.0 c.fits-v.1

pub swizzle-2 : goal.swizzle-2
swizzle-2 c = low_may_two c.args.v c.fits-v.0 c.fits-v.1

pub returns : goal.returns
returns c = λ g h j x y fx fy ev ia ib.
    products_two g h j c.args.a.now c.args.b.now c.args.v c.side_by_side.result c.side_by_side-2.result x y fx fy ev
    c.side_by_side.ensures.long.0 c.side_by_side-2.ensures.long.0 c.side_by_side.ensures.both
    c.side_by_side-2.ensures.both ia ib
