use Rattle.law_memory.proofs.AllLaws.{origin_law as holds}
use Rattle.law_memory.proofs.laws.origin_law.Goals as goal

pub returns : goal.returns
returns c = holds
