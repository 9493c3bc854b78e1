use Rattle.case_runs.proofs.MmioComputed.{mmio_computed}
use Rattle.case_runs.proofs.on_memory.mmio_cases.Goals as goal

pub returns : goal.returns
returns c = mmio_computed
