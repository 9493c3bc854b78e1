use Rattle.machine_operations.proofs.Points.{points as holds}
use Rattle.machine_operations.proofs.stands.points_stand.Goals as goal

pub returns : goal.returns
returns c = holds
