use Rattle.law_crossings.proofs.HopTrust.{hop_trust_law as holds}
use Rattle.law_crossings.proofs.laws.hop_trust_law.Goals as goal

pub returns : goal.returns
returns c = holds
