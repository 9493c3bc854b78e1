use Rattle.law_bindings.proofs.AllLaws.{peer_store_law as holds}
use Rattle.law_bindings.proofs.laws.peer_store_law.Goals as goal

pub returns : goal.returns
returns c = holds
