use Rattle.case_runs.proofs.ReadsComputed.{reads_computed}
use Rattle.case_runs.proofs.on_memory.read_cases.Goals as goal

pub returns : goal.returns
returns c = reads_computed
