use Rattle.case_runs.proofs.InterfaceComputed.{computed}
use Rattle.case_runs.proofs.on_interfaces.interface_cases.Goals as goal

pub returns : goal.returns
returns c = computed
