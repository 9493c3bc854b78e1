use Rattle.std.proofs.Common.{bit_xor, ◌∙◌}
use Rattle.gcm_seal.specs.Inside.{raised_block}
use Rattle.gcm_seal.proofs.Moves.{two-joined}
use Rattle.gcm_seal.proofs.ghash.reduced_sum.Goals as goal

pub returns : goal.returns
returns c =
    c.reduced.ensures
    ∙ (λ i. bit_xor (c.number_of.ensures i) (raised_block 128 (c.number_of-2.ensures i)))
    ∙ two-joined c.args.low c.args.high c.fits-low c.fits-high
