use Rattle.law_honest.proofs.Honest.{honest_law as holds}
use Rattle.law_honest.proofs.laws.honest_law.Goals as goal

pub returns : goal.returns
returns c = holds
