use Rattle.law_keys.proofs.Again.{ended_keys_stay_out as holds}
use Rattle.law_keys.proofs.laws.ended_keys_stay_out.Goals as goal

pub returns : goal.returns
returns c = holds
