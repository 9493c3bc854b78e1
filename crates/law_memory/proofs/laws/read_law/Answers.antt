use Rattle.law_memory.proofs.AllLaws.{read_law as holds}
use Rattle.law_memory.proofs.laws.read_law.Goals as goal

pub returns : goal.returns
returns c = holds
