use Rattle.law_delivery.proofs.AllLaws.{draws_never_fall as holds}
use Rattle.law_delivery.proofs.laws.draws_never_fall.Goals as goal

pub returns : goal.returns
returns c = holds
