use Rattle.rule_counts.proofs.Listed.{rules_listed}
use Rattle.rule_counts.proofs.laws.rules_are_listed.Goals as goal

pub returns : goal.returns
returns c = rules_listed
