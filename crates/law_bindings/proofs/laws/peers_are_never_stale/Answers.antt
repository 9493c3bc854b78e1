use Rattle.law_bindings.proofs.AllLaws.{peers_are_never_stale as holds}
use Rattle.law_bindings.proofs.laws.peers_are_never_stale.Goals as goal

pub returns : goal.returns
returns c = holds
