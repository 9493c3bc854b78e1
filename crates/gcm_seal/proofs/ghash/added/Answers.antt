use Rattle.std.proofs.Common.{bit_xor, ap, ◌∙◌, arith}
use Rattle.std.specs.Int.{w128, from_be_bytes}
use lib.Lanes.{zip2}
use Rattle.gcm_seal.proofs.Numbers.{number-sum}
use Rattle.gcm_seal.proofs.ghash.added.Goals as goal

pub returns : goal.returns
returns c = ap (λ l. from_be_bytes w128 (zip2 bit_xor l c.args.v)) c.vector_of.ensures
    ∙ number-sum c.args.y c.args.v (omega arith) c.fits-v
