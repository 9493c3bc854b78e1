use Rattle.machine_whole.proofs.Whole.{whole_begins as holds}
use Rattle.machine_whole.proofs.stands.whole_begins.Goals as goal

pub returns : goal.returns
returns c = holds
