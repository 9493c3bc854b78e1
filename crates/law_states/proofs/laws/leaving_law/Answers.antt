use Rattle.law_states.proofs.AllLaws.{leaving_law as holds}
use Rattle.law_states.proofs.laws.leaving_law.Goals as goal

pub returns : goal.returns
returns c = holds
