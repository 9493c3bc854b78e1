use Rattle.law_bindings.proofs.AllLaws.{verdicts_tell_bindings as holds}
use Rattle.law_bindings.proofs.laws.verdicts_tell_bindings.Goals as goal

pub returns : goal.returns
returns c = holds
