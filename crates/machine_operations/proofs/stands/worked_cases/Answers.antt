use Rattle.machine_operations.proofs.Cases.{work_touches as proof}
use Rattle.machine_operations.proofs.stands.worked_cases.Goals as goal

pub returns : goal.returns
returns c = proof
