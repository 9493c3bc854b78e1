use Rattle.case_runs.proofs.HopComputed.{computed}
use Rattle.case_runs.proofs.on_hops.hop_cases.Goals as goal

pub returns : goal.returns
returns c = computed
