use Rattle.std.proofs.Common.{bit_xor}
use Rattle.std.proofs.lemmas.Simd.{zip2_of_maps}
use Rattle.aes_block.specs.Nibbles.{entry_of, low, high, nibble_sum, first_place, second_place, first_part, second_part}
use Rattle.aes_block.specs.Nibbles.{inverses, scaled_values}
use Rattle.aes_block.proofs.Places.{after, high_map, high_place, low_map, low_place, both_place, first_place_place}
use Rattle.aes_block.proofs.Places.{second_place_place, placed}
use Rattle.aes_block.proofs.pairs.parts.Goals as goal

pub look-scaled-requires : goal.look-scaled-requires
look-scaled-requires c = placed low c.args.v _ c.fits-v.1 (low_map c.args.v c.fits-v.0) low_place

pub look-requires : goal.look-requires
look-requires c = placed high c.args.v _ c.fits-v.1 (high_map c.args.v c.fits-v.0) high_place

pub look-requires-2 : goal.look-requires-2
look-requires-2 c =
    let v = c.args.v in
    placed nibble_sum v _ c.fits-v.1 (zip2_of_maps bit_xor low high v (low_map v c.fits-v.0) (high_map v c.fits-v.0))
    both_place

pub look-requires-3 : goal.look-requires-3
look-requires-3 c =
    let v = c.args.v in
    placed first_place v _ c.fits-v.1
    (zip2_of_maps bit_xor (λ x. entry_of inverses (high x)) (λ x. entry_of scaled_values (low x)) v
    (after (entry_of inverses) high v _ _ c.look.ensures (high_map v c.fits-v.0))
    (after (entry_of scaled_values) low v _ _ c.look-scaled.ensures (low_map v c.fits-v.0)))
    first_place_place

pub look-requires-4 : goal.look-requires-4
look-requires-4 c =
    let v = c.args.v in
    placed second_place v _ c.fits-v.1
    (zip2_of_maps bit_xor (λ x. entry_of inverses (nibble_sum x)) (λ x. entry_of scaled_values (low x)) v
    (after (entry_of inverses) nibble_sum v _ _ c.look-2.ensures
    (zip2_of_maps bit_xor low high v (low_map v c.fits-v.0) (high_map v c.fits-v.0)))
    (after (entry_of scaled_values) low v _ _ c.look-scaled.ensures (low_map v c.fits-v.0)))
    second_place_place

pub returns-clause-first : goal.returns-clause-first
unfolding first_part
returns-clause-first c =
    let v = c.args.v in
    zip2_of_maps bit_xor (λ x. entry_of inverses (first_place x)) nibble_sum v
    (after (entry_of inverses) first_place v _ _ c.look-3.ensures
    (zip2_of_maps bit_xor (λ x. entry_of inverses (high x)) (λ x. entry_of scaled_values (low x)) v
    (after (entry_of inverses) high v _ _ c.look.ensures (high_map v c.fits-v.0))
    (after (entry_of scaled_values) low v _ _ c.look-scaled.ensures (low_map v c.fits-v.0))))
    (zip2_of_maps bit_xor low high v (low_map v c.fits-v.0) (high_map v c.fits-v.0))

pub returns-clause-second : goal.returns-clause-second
unfolding second_part
returns-clause-second c =
    let v = c.args.v in
    zip2_of_maps bit_xor (λ x. entry_of inverses (second_place x)) high v
    (after (entry_of inverses) second_place v _ _ c.look-4.ensures
    (zip2_of_maps bit_xor (λ x. entry_of inverses (nibble_sum x)) (λ x. entry_of scaled_values (low x)) v
    (after (entry_of inverses) nibble_sum v _ _ c.look-2.ensures
    (zip2_of_maps bit_xor low high v (low_map v c.fits-v.0) (high_map v c.fits-v.0)))
    (after (entry_of scaled_values) low v _ _ c.look-scaled.ensures (low_map v c.fits-v.0))))
    (high_map v c.fits-v.0)
