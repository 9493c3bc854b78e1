use Rattle.law_honest.proofs.Fresh.{fresh_law as holds}
use Rattle.law_honest.proofs.laws.fresh_law.Goals as goal

pub returns : goal.returns
returns c = holds
