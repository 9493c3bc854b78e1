use Rattle.gcm_seal.proofs.Lookups.{halves-sum}
use Rattle.gcm_seal.proofs.ghash.folded.Goals as goal

pub returns : goal.returns
returns c = halves-sum c.args.v
