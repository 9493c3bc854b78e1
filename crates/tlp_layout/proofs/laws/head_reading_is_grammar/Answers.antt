use Rattle.tlp_layout.proofs.Readings.{read_head_spells, read_head_refuses}
use Rattle.tlp_layout.proofs.laws.head_reading_is_grammar.Goals as goal

pub returns-clause-reads : goal.returns-clause-reads
returns-clause-reads c = read_head_spells

pub returns-clause-refuses : goal.returns-clause-refuses
returns-clause-refuses c = read_head_refuses
