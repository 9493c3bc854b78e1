use Rattle.law_key_facts.proofs.AllFacts.{facts as holds}
use Rattle.law_key_facts.proofs.facts.facts_hold.Goals as goal

pub returns : goal.returns
returns c = holds
