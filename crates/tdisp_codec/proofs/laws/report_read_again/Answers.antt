use Rattle.tdisp_codec.specs.Reports.{report_spelling}
use Rattle.tdisp_codec.proofs.Shapes.{reads_again}
use Rattle.tdisp_codec.proofs.Reports.{reader, written_spells}
use Rattle.tdisp_codec.proofs.laws.report_read_again.Goals as goal

pub returns-clause-spells : goal.returns-clause-spells
returns-clause-spells c = written_spells

pub returns-clause-reads : goal.returns-clause-reads
returns-clause-reads c = λ report fits. reads_again reader report (report_spelling report) (written_spells report fits)
