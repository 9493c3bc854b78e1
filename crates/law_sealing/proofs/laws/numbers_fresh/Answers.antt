use Rattle.law_sealing.proofs.Numbers.{numbers_fresh as holds}
use Rattle.law_sealing.proofs.laws.numbers_fresh.Goals as goal

pub returns : goal.returns
returns c = holds
