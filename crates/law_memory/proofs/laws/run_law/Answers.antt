use Rattle.law_memory.proofs.AllLaws.{run_law as holds}
use Rattle.law_memory.proofs.laws.run_law.Goals as goal

pub returns : goal.returns
returns c = holds
