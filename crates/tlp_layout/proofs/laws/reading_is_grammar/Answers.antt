use Rattle.tlp_layout.proofs.Readings.{read_spells_tlp, read_refuses}
use Rattle.tlp_layout.proofs.laws.reading_is_grammar.Goals as goal

pub returns-clause-reads : goal.returns-clause-reads
returns-clause-reads c = read_spells_tlp

pub returns-clause-refuses : goal.returns-clause-refuses
returns-clause-refuses c = read_refuses
