use Rattle.law_key_use.proofs.Refreshes.{refresh_takes as holds}
use Rattle.law_key_use.proofs.laws.refresh_takes.Goals as goal

pub returns : goal.returns
returns c = holds
