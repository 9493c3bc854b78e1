use Rattle.rule_counts.proofs.Forgeries.{forgeries_counted}
use Rattle.rule_counts.proofs.laws.forgeries_are_counted.Goals as goal

pub returns : goal.returns
returns c = forgeries_counted
