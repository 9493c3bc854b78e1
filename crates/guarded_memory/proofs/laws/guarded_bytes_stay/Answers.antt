use Rattle.guarded_memory.proofs.Guarding.{stays}
use Rattle.guarded_memory.proofs.Shown.{left_alone}
use Rattle.guarded_memory.proofs.laws.guarded_bytes_stay.Goals as goal

pub returns-clause-writes : goal.returns-clause-writes
returns-clause-writes c = stays

pub returns-clause-others : goal.returns-clause-others
returns-clause-others c = left_alone
