use Rattle.law_hops.proofs.Sends.{forward_sends as holds}
use Rattle.law_hops.proofs.laws.forward_sends.Goals as goal

pub returns : goal.returns
returns c = holds
