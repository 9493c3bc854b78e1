use Rattle.trusted_memory.proofs.Admitted.{leads_joined}
use Rattle.trusted_memory.proofs.laws.packets_in_turn.Goals as goal

pub returns-clause-joined : goal.returns-clause-joined
returns-clause-joined c = leads_joined
