use Rattle.machine_ports.proofs.Steps.{packets_stand as holds}
use Rattle.machine_ports.proofs.stands.packets_stand.Goals as goal

pub returns : goal.returns
returns c = holds
