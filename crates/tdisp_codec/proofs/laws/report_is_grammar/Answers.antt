use Rattle.tdisp_codec.proofs.Shapes.{reads, refuses}
use Rattle.tdisp_codec.proofs.Reports.{reader}
use Rattle.tdisp_codec.proofs.laws.report_is_grammar.Goals as goal

pub returns-clause-reads : goal.returns-clause-reads
returns-clause-reads c = reads reader

pub returns-clause-refuses : goal.returns-clause-refuses
returns-clause-refuses c = refuses reader
