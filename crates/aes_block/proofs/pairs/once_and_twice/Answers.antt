use Rattle.std.proofs.Common.{bit_xor}
use Rattle.std.proofs.lemmas.Simd.{zip2_of_maps}
use Rattle.aes_block.specs.Nibbles.{entry_of, first_part, second_part, once_of, once_first, once_second, twice_of}
use Rattle.aes_block.specs.Nibbles.{twice_first, twice_second}
use Rattle.aes_block.proofs.Places.{after, first_part_place, second_part_place, placed}
use Rattle.aes_block.proofs.pairs.once_and_twice.Goals as goal

pub look-requires : goal.look-requires
look-requires c = placed first_part c.args.v _ c.fits-v.1 c.parts-p.ensures.first first_part_place

pub look-requires-2 : goal.look-requires-2
look-requires-2 c = placed second_part c.args.v _ c.fits-v.1 c.parts-p.ensures.second second_part_place

pub look-requires-3 : goal.look-requires-3
look-requires-3 c = placed first_part c.args.v _ c.fits-v.1 c.parts-p.ensures.first first_part_place

pub look-requires-4 : goal.look-requires-4
look-requires-4 c = placed second_part c.args.v _ c.fits-v.1 c.parts-p.ensures.second second_part_place

pub returns-clause-once : goal.returns-clause-once
unfolding once_of
returns-clause-once c =
    let v = c.args.v in
    zip2_of_maps bit_xor (λ x. entry_of once_first (first_part x)) (λ x. entry_of once_second (second_part x)) v
    (after (entry_of once_first) first_part v _ _ c.look.ensures c.parts-p.ensures.first)
    (after (entry_of once_second) second_part v _ _ c.look-2.ensures c.parts-p.ensures.second)

pub returns-clause-twice : goal.returns-clause-twice
unfolding twice_of
returns-clause-twice c =
    let v = c.args.v in
    zip2_of_maps bit_xor (λ x. entry_of twice_first (first_part x)) (λ x. entry_of twice_second (second_part x)) v
    (after (entry_of twice_first) first_part v _ _ c.look-3.ensures c.parts-p.ensures.first)
    (after (entry_of twice_second) second_part v _ _ c.look-4.ensures c.parts-p.ensures.second)
