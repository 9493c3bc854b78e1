use Rattle.spec_interfaces.proofs.RunLaws.{interface_run_law as holds}
use Rattle.spec_interfaces.proofs.laws.interface_run_law.Goals as goal

pub returns : goal.returns
returns c = holds
