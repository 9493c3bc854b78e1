use Rattle.law_outcomes.proofs.AllLaws.{shown_law as holds}
use Rattle.law_outcomes.proofs.laws.shown_law.Goals as goal

pub returns : goal.returns
returns c = holds
