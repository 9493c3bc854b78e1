use Rattle.std.proofs.Common.{ap, ◌∙◌}
use Rattle.gcm_seal.specs.Inside.{block_product}
use Rattle.gcm_seal.proofs.ghash.absorb_one.Goals as goal

pub returns : goal.returns
returns c = λ h lt are. c.product.ensures h lt are.0 ∙ ap (block_product h) c.added.ensures
