use Rattle.why_facts.proofs.Stand.{facts_stand as holds}
use Rattle.why_facts.proofs.stands.facts_stand.Goals as goal

pub returns : goal.returns
returns c = holds
