use Rattle.machine_whole.proofs.Whole.{whole_steps as holds}
use Rattle.machine_whole.proofs.stands.whole_steps.Goals as goal

pub returns : goal.returns
returns c = holds
