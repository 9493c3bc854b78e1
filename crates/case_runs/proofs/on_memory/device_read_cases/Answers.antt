use Rattle.case_runs.proofs.DeviceReadsComputed.{device_reads_computed}
use Rattle.case_runs.proofs.on_memory.device_read_cases.Goals as goal

pub returns : goal.returns
returns c = device_reads_computed
