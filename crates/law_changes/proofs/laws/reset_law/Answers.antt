use Rattle.law_changes.proofs.Resets.{reset_law as holds}
use Rattle.law_changes.proofs.laws.reset_law.Goals as goal

pub returns : goal.returns
returns c = holds
