use Rattle.law_sending.proofs.AllLaws.{exact_trust_law as holds}
use Rattle.law_sending.proofs.laws.exact_trust_law.Goals as goal

pub returns : goal.returns
returns c = holds
