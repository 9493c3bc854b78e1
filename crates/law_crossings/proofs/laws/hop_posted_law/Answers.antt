use Rattle.law_crossings.proofs.HopPostedLaw.{hop_posted_law as holds}
use Rattle.law_crossings.proofs.laws.hop_posted_law.Goals as goal

pub returns : goal.returns
returns c = holds
