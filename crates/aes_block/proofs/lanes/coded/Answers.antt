use Rattle.std.proofs.Common.{bit_xor}
use Rattle.std.proofs.lemmas.Simd.{zip2_of_maps}
use Rattle.aes_block.specs.Nibbles.{code, code_low, code_high, entry_of, low, high}
use Rattle.aes_block.proofs.Places.{after, high_map, high_place, low_map, low_place, placed}
use Rattle.aes_block.proofs.lanes.coded.Goals as goal

pub look-requires : goal.look-requires
look-requires c = placed low c.args.v _ c.fits-v.1 (low_map c.args.v c.fits-v.0) low_place

pub look-requires-2 : goal.look-requires-2
look-requires-2 c = placed high c.args.v _ c.fits-v.1 (high_map c.args.v c.fits-v.0) high_place

pub returns : goal.returns
unfolding code
returns c =
    let v = c.args.v in
    zip2_of_maps bit_xor (λ x. entry_of code_low (low x)) (λ x. entry_of code_high (high x)) v
    (after (entry_of code_low) low v _ _ c.look.ensures (low_map v c.fits-v.0))
    (after (entry_of code_high) high v _ _ c.look-2.ensures (high_map v c.fits-v.0))
