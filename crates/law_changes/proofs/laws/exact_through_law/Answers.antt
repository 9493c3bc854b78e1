use Rattle.law_changes.proofs.Switches.{exact_through_law as holds}
use Rattle.law_changes.proofs.laws.exact_through_law.Goals as goal

pub returns : goal.returns
returns c = holds
