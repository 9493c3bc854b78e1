use Rattle.law_sending.proofs.AllLaws.{sealed_comes_from as holds}
use Rattle.law_sending.proofs.laws.sealed_comes_from.Goals as goal

pub returns : goal.returns
returns c = holds
