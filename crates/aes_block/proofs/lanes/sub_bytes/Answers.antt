use Rattle.std.proofs.Common.{bit_xor, ◌∙◌}
use Rattle.std.proofs.lemmas.Simd.{zip2_of_maps, splat_is_map}
use Rattle.aes_block.specs.Nibbles.{code, last_of}
use Rattle.aes_block.proofs.Places.{after, sub_bytes_by_codes}
use Rattle.aes_block.proofs.lanes.sub_bytes.Goals as goal

pub returns : goal.returns
returns c =
    let v = c.args.v in
    zip2_of_maps bit_xor (λ x. last_of (code x)) (λ x. 0x63) v
    (after last_of code v _ _ c.last.ensures c.coded.ensures)
    (splat_is_map v 16 0x63 c.fits-v.0)
    ∙ sub_bytes_by_codes v c.fits-v
