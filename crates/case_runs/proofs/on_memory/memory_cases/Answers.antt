use Rattle.case_runs.proofs.MemoryComputed.{computed}
use Rattle.case_runs.proofs.on_memory.memory_cases.Goals as goal

pub returns : goal.returns
returns c = computed
