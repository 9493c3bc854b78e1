use Rattle.law_changes.proofs.Inert.{inert_law as holds}
use Rattle.law_changes.proofs.laws.inert_law.Goals as goal

pub returns : goal.returns
returns c = holds
