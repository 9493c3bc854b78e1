use Rattle.case_runs.proofs.Writes.{one_missing_due}
use Rattle.case_runs.proofs.on_scripts.write_is_missing.Goals as goal

pub returns : goal.returns
returns c = one_missing_due
