use Rattle.case_runs.proofs.Writes.{read_ahead_due}
use Rattle.case_runs.proofs.on_scripts.read_waits_for_its_write.Goals as goal

pub returns : goal.returns
returns c = read_ahead_due
