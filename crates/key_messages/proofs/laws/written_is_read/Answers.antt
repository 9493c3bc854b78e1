use Rattle.key_messages.proofs.Objects.{written_spells, spells_read}
use Rattle.key_messages.specs.Objects.{object_spelling}
use Rattle.key_messages.proofs.laws.written_is_read.Goals as goal

pub returns-clause-spells : goal.returns-clause-spells
returns-clause-spells c = written_spells

pub returns-clause-reads : goal.returns-clause-reads
returns-clause-reads c = λ object fits. spells_read object (object_spelling object) (written_spells object fits)
