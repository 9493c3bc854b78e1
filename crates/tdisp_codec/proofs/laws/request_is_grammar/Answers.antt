use Rattle.tdisp_codec.proofs.Shapes.{reads, refuses}
use Rattle.tdisp_codec.proofs.Messages.{message_reader}
use Rattle.tdisp_codec.proofs.Requests.{codec}
use Rattle.tdisp_codec.proofs.laws.request_is_grammar.Goals as goal

pub returns-clause-reads : goal.returns-clause-reads
returns-clause-reads c = reads (message_reader codec)

pub returns-clause-refuses : goal.returns-clause-refuses
returns-clause-refuses c = refuses (message_reader codec)
