use Rattle.law_memory.proofs.AllLaws.{interfaces_have_causes as holds}
use Rattle.law_memory.proofs.laws.interfaces_have_causes.Goals as goal

pub returns : goal.returns
returns c = holds
