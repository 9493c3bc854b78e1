use Rattle.law_states.proofs.AllLaws.{error_law as holds}
use Rattle.law_states.proofs.laws.error_law.Goals as goal

pub returns : goal.returns
returns c = holds
