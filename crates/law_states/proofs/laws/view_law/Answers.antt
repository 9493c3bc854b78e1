use Rattle.law_states.proofs.AllLaws.{view_law as holds}
use Rattle.law_states.proofs.laws.view_law.Goals as goal

pub returns : goal.returns
returns c = holds
