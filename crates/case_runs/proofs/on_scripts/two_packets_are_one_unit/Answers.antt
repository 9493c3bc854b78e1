use Rattle.case_runs.proofs.Unit.{two_due}
use Rattle.case_runs.proofs.on_scripts.two_packets_are_one_unit.Goals as goal

pub returns : goal.returns
returns c = two_due
