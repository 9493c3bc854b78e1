use Rattle.law_sealing.proofs.Few.{totals_fit as holds}
use Rattle.law_sealing.proofs.laws.totals_fit.Goals as goal

pub returns : goal.returns
returns c = holds
