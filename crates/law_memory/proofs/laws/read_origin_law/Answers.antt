use Rattle.law_memory.proofs.AllLaws.{read_origin_law as holds}
use Rattle.law_memory.proofs.laws.read_origin_law.Goals as goal

pub returns : goal.returns
returns c = holds
