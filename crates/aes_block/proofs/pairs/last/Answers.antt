use Rattle.std.proofs.Common.{bit_xor}
use Rattle.std.proofs.lemmas.Simd.{zip2_of_maps}
use Rattle.aes_block.specs.Nibbles.{entry_of, first_part, second_part, last_of, last_first, last_second}
use Rattle.aes_block.proofs.Places.{after, first_part_place, second_part_place, placed}
use Rattle.aes_block.proofs.pairs.last.Goals as goal

pub look-requires : goal.look-requires
look-requires c = placed first_part c.args.v _ c.fits-v.1 c.parts-p.ensures.first first_part_place

pub look-requires-2 : goal.look-requires-2
look-requires-2 c = placed second_part c.args.v _ c.fits-v.1 c.parts-p.ensures.second second_part_place

pub returns : goal.returns
unfolding last_of
returns c =
    let v = c.args.v in
    zip2_of_maps bit_xor (λ x. entry_of last_first (first_part x)) (λ x. entry_of last_second (second_part x)) v
    (after (entry_of last_first) first_part v _ _ c.look.ensures c.parts-p.ensures.first)
    (after (entry_of last_second) second_part v _ _ c.look-2.ensures c.parts-p.ensures.second)
