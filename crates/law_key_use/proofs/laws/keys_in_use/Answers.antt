use Rattle.law_key_use.proofs.InUse.{in_use as holds}
use Rattle.law_key_use.proofs.laws.keys_in_use.Goals as goal

pub returns : goal.returns
returns c = holds
