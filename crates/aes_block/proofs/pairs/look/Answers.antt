use Rattle.std.proofs.Common.{List, ℕ, ap, ◌∙◌, w8, arith}
use Rattle.std.proofs.lemmas.Simd.{swz_l}
use Rattle.aes_block.proofs.Halves.{looked_twice, may_look_twice}
use Rattle.aes_block.proofs.pairs.look.Goals as goal

pub swizzle : goal.swizzle
swizzle c = may_look_twice c.args.at c.fits-at.0 c.requires

pub returns : goal.returns
returns c = ap (λ (t : List ℕ). swz_l w8 16 t 0 c.args.at) c.side_by_side.ensures.both
    ∙ looked_twice c.args.table c.args.at (omega arith) c.fits-at.0 c.requires
