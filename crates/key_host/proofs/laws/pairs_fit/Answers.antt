use Rattle.key_host.proofs.PairsFit.{pairs_fit}
use Rattle.key_host.proofs.laws.pairs_fit.Goals as goal

pub returns : goal.returns
returns c = pairs_fit
