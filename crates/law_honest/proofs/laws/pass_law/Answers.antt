use Rattle.law_honest.proofs.Passes.{pass_law as holds}
use Rattle.law_honest.proofs.laws.pass_law.Goals as goal

pub returns : goal.returns
returns c = holds
