use Rattle.case_runs.proofs.Writes.{accepted_once_due}
use Rattle.case_runs.proofs.on_scripts.write_is_accepted_once.Goals as goal

pub returns : goal.returns
returns c = accepted_once_due
