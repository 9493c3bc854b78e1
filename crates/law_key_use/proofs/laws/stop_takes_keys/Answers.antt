use Rattle.law_key_use.proofs.Stops.{stop_takes as holds}
use Rattle.law_key_use.proofs.laws.stop_takes_keys.Goals as goal

pub returns : goal.returns
returns c = holds
