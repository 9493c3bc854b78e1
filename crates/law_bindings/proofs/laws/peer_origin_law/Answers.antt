use Rattle.law_bindings.proofs.AllLaws.{peer_origin_law as holds}
use Rattle.law_bindings.proofs.laws.peer_origin_law.Goals as goal

pub returns : goal.returns
returns c = holds
