use Rattle.spec_keys.proofs.Facts.{key_facts as holds}
use Rattle.spec_keys.proofs.laws.key_facts.Goals as goal

pub returns : goal.returns
returns c = holds
