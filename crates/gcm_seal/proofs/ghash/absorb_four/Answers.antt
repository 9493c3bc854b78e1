use Rattle.std.proofs.Common.{◌+◌, bit_xor, ap, ◌∙◌}
use Rattle.gcm_seal.specs.Inside.{padded_block, sum_of_four}
use Rattle.gcm_seal.proofs.Ring.{four-products}
use Rattle.gcm_seal.proofs.ghash.absorb_four.Goals as goal

pub returns : goal.returns
returns c = λ h lt are.
    let s = c.args.s.now in
    let i = c.args.i in
    c.times_four.ensures h lt are
    ∙ (λ k. sum_of_four h ((c.added.ensures ∙ ap (bit_xor c.args.y) c.block_at.ensures) k) (c.block_at-2.ensures k)
    (c.block_at-3.ensures k) (c.block_at-4.ensures k))
    ∙ four-products h (bit_xor c.args.y (padded_block s i)) (padded_block s (i + 1)) (padded_block s (i + 2))
    (padded_block s (i + 3)) lt
