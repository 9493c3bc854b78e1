use Rattle.law_keys.proofs.Secures.{stream_stays_secure as holds}
use Rattle.law_keys.proofs.laws.stream_stays_secure.Goals as goal

pub returns : goal.returns
returns c = holds
