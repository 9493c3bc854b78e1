use Rattle.law_states.proofs.AllLaws.{state_law as holds}
use Rattle.law_states.proofs.laws.state_law.Goals as goal

pub returns : goal.returns
returns c = holds
