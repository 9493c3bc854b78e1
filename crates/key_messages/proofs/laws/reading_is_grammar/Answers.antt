use Rattle.key_messages.proofs.Objects.{spells_read, read_spells}
use Rattle.key_messages.proofs.laws.reading_is_grammar.Goals as goal

pub returns : goal.returns
returns c = λ object bytes octets. (spells_read object bytes, read_spells object bytes octets)
