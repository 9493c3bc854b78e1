use Rattle.machine_operations.proofs.AllSteps.{steps as proof}
use Rattle.machine_operations.proofs.stands.step_stands.Goals as goal

pub returns : goal.returns
returns c = proof
