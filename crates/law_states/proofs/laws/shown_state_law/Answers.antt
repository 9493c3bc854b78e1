use Rattle.law_states.proofs.AllLaws.{shown_state_law as holds}
use Rattle.law_states.proofs.laws.shown_state_law.Goals as goal

pub returns : goal.returns
returns c = holds
