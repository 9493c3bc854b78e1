use Rattle.machine_operations.proofs.OperationSteps.{operation_steps as proof}
use Rattle.machine_operations.proofs.stands.operation_steps.Goals as goal

pub returns : goal.returns
returns c = proof
