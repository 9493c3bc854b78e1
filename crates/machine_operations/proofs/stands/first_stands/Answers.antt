use Rattle.machine_operations.proofs.Resets.{begins as proof}
use Rattle.machine_operations.proofs.stands.first_stands.Goals as goal

pub returns : goal.returns
returns c = proof
