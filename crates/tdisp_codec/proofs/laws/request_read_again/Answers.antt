use Rattle.tdisp_codec.specs.Requests.{request_spelling}
use Rattle.tdisp_codec.proofs.Shapes.{reads_again}
use Rattle.tdisp_codec.proofs.Messages.{message_reader}
use Rattle.tdisp_codec.proofs.Requests.{codec, written_spells}
use Rattle.tdisp_codec.proofs.laws.request_read_again.Goals as goal

pub returns-clause-spells : goal.returns-clause-spells
returns-clause-spells c = written_spells

pub returns-clause-reads : goal.returns-clause-reads
returns-clause-reads c = λ request fits. reads_again (message_reader codec) request (request_spelling request)
    (written_spells request fits)
