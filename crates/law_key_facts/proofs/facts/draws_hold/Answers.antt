use Rattle.law_key_facts.proofs.Draws.{draws as holds}
use Rattle.law_key_facts.proofs.facts.draws_hold.Goals as goal

pub returns : goal.returns
returns c = holds
