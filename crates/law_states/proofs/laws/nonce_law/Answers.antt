use Rattle.law_states.proofs.AllLaws.{nonce_law as holds}
use Rattle.law_states.proofs.laws.nonce_law.Goals as goal

pub returns : goal.returns
returns c = holds
