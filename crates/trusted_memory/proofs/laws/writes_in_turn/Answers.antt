use Rattle.trusted_memory.proofs.Turns.{byte_last_written-in_turn, byte_last_written-next}
use Rattle.trusted_memory.proofs.laws.writes_in_turn.Goals as goal

pub returns-clause-in_turn : goal.returns-clause-in_turn
returns-clause-in_turn c = byte_last_written-in_turn

pub returns-clause-next : goal.returns-clause-next
returns-clause-next c = byte_last_written-next
