use Rattle.law_bindings.proofs.AllLaws.{bindings_last as holds}
use Rattle.law_bindings.proofs.laws.bindings_last.Goals as goal

pub returns : goal.returns
returns c = holds
