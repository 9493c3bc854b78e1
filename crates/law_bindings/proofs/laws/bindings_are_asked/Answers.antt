use Rattle.law_bindings.proofs.AllLaws.{bindings_are_asked as holds}
use Rattle.law_bindings.proofs.laws.bindings_are_asked.Goals as goal

pub returns : goal.returns
returns c = holds
