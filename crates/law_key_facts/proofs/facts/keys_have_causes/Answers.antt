use Rattle.law_key_facts.proofs.Given.{key_cause as holds}
use Rattle.law_key_facts.proofs.facts.keys_have_causes.Goals as goal

pub returns : goal.returns
returns c = holds
