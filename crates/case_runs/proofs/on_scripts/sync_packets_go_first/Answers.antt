use Rattle.case_runs.proofs.Counted.{count_full_due}
use Rattle.case_runs.proofs.on_scripts.sync_packets_go_first.Goals as goal

pub returns : goal.returns
returns c = count_full_due
