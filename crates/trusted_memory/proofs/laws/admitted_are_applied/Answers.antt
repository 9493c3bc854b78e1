use Rattle.trusted_memory.proofs.Admitted.{admitted_says}
use Rattle.trusted_memory.proofs.laws.admitted_are_applied.Goals as goal

pub returns : goal.returns
returns c = admitted_says
