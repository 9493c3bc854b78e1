use Rattle.machine_ports.proofs.Through.{through_stays as holds}
use Rattle.machine_ports.proofs.stands.through_stays.Goals as goal

pub returns : goal.returns
returns c = holds
