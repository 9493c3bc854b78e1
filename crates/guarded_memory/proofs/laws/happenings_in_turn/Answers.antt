use Rattle.guarded_memory.proofs.Shown.{byte_shown-none, byte_shown-next, leads_joined}
use Rattle.guarded_memory.proofs.laws.happenings_in_turn.Goals as goal

pub returns-clause-first : goal.returns-clause-first
returns-clause-first c = byte_shown-none

pub returns-clause-next : goal.returns-clause-next
returns-clause-next c = byte_shown-next

pub returns-clause-joined : goal.returns-clause-joined
returns-clause-joined c = leads_joined
