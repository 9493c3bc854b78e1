use Rattle.std.proofs.Common.{ap, ◌∙◌, arith}
use Rattle.std.specs.Int.{w128, from_be_bytes}
use Rattle.gcm_seal.specs.Inside.{block_product}
use Rattle.gcm_seal.proofs.Moves.{from-to}
use Rattle.gcm_seal.proofs.ghash.product_of_number.Goals as goal

pub returns : goal.returns
returns c = λ h lt are.
    c.product.ensures h lt are
    ∙ ap (λ v. block_product h (from_be_bytes w128 v)) c.vector_of.ensures
    ∙ ap (block_product h) (from-to c.args.x (omega arith))
