use Rattle.std.proofs.Common.{arith}
use Rattle.gcm_seal.proofs.Strings.{number_same}
use Rattle.gcm_seal.proofs.ghash.last_block.Goals as goal

pub returns : goal.returns
returns c = number_same c.loop-k.b c.args.rest.now (λ k lt. c.loop-k.invariant.copied k (omega arith))
