use Rattle.script_events.proofs.FirstFaults.{faults_are_first}
use Rattle.script_events.proofs.parse.faults_are_first.Goals as goal

pub returns : goal.returns
returns c = faults_are_first
