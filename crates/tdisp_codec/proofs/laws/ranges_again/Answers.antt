use Rattle.tdisp_codec.proofs.RangeBytes.{ranges_again as holds}
use Rattle.tdisp_codec.proofs.laws.ranges_again.Goals as goal

pub returns : goal.returns
returns c = holds
