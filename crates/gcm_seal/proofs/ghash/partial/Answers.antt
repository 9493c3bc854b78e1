use Rattle.gcm_seal.proofs.Lookups.{high_may, low_may, products}
use Rattle.gcm_seal.proofs.ghash.partial.Goals as goal

pub swizzle : goal.swizzle
swizzle c = high_may c.args.v c.fits-v

pub swizzle-2 : goal.swizzle-2
swizzle-2 c = low_may c.args.v c.fits-v

pub returns : goal.returns
returns c = λ h j is. products h j c.args.row.now c.args.v c.fits-v is
