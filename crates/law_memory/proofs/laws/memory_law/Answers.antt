use Rattle.law_memory.proofs.AllLaws.{memory_law as holds}
use Rattle.law_memory.proofs.laws.memory_law.Goals as goal

pub returns : goal.returns
returns c = holds
