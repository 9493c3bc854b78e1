use Rattle.law_honest.proofs.Honest.{honest_delivery as holds}
use Rattle.law_honest.proofs.laws.honest_delivery.Goals as goal

pub returns : goal.returns
returns c = holds
