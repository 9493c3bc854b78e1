use Rattle.std.proofs.Common.{bit_xor, ◌∙◌}
use lib.Lanes.{zip2}
use Rattle.aes_block.proofs.Codes.{first-lanes, first-vector}
use Rattle.aes_block.proofs.lanes.first_round.Goals as goal

pub returns : goal.returns
returns c = λ w fits k.
    (first-vector w c.args.block fits, (λ i. zip2 bit_xor (c.coded.ensures i) (k i)) ∙ first-lanes w c.args.block fits)
