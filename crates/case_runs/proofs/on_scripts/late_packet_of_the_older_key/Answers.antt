use Rattle.case_runs.proofs.Refreshes.{late_due}
use Rattle.case_runs.proofs.on_scripts.late_packet_of_the_older_key.Goals as goal

pub returns : goal.returns
returns c = late_due
