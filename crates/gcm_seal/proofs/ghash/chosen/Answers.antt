use Rattle.gcm_seal.proofs.Lookups.{may_pick_two, picked_two}
use Rattle.gcm_seal.proofs.ghash.chosen.Goals as goal

pub swizzle : goal.swizzle
swizzle c = may_pick_two c.side_by_side.result c.args.unset c.args.j c.side_by_side.ensures.both c.fits-unset.0
    c.requires.index c.requires.places

pub returns : goal.returns
returns c = picked_two c.args.v c.args.w c.side_by_side-2.result c.side_by_side.result c.args.unset c.args.j c.fits-v.0
    c.side_by_side-2.ensures.both c.side_by_side.ensures.both c.fits-unset.0 c.requires.index c.requires.places
