use Rattle.law_hops.proofs.Crosses.{hop_law as holds}
use Rattle.law_hops.proofs.laws.hop_law.Goals as goal

pub returns : goal.returns
returns c = holds
