use Rattle.std.proofs.Common.{bit_xor, sym, ap, arith}
use Rattle.gcm_seal.proofs.Reduction.{raised_block-reduced, spill, four}
use Rattle.gcm_seal.proofs.ghash.reduced.Goals as goal

pub returns : goal.returns
unfolding spill four
returns c = ap (bit_xor c.args.z) (sym (raised_block-reduced c.args.w (omega arith)))
