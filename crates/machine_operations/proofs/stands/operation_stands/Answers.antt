use Rattle.machine_operations.proofs.Operations.{manager_after_operation as proof}
use Rattle.machine_operations.proofs.stands.operation_stands.Goals as goal

pub returns : goal.returns
returns c = proof
