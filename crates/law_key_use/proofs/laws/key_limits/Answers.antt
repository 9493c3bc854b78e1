use Rattle.law_key_use.proofs.Limits.{key_limits as holds}
use Rattle.law_key_use.proofs.laws.key_limits.Goals as goal

pub returns : goal.returns
returns c = holds
