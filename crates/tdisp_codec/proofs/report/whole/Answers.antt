use Rattle.std.proofs.Common.{arith}
use Rattle.tdisp_codec.proofs.RangeBytes.{ranges_back}
use Rattle.tdisp_codec.proofs.report.whole.Goals as goal

pub returns-clause-spelled : goal.returns-clause-spelled
returns-clause-spelled c = ranges_back c.args.bytes.now (λ i. omega (arith, c.type_inv.bytes i)) c.requires
