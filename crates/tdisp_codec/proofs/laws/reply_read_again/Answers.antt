use Rattle.tdisp_codec.specs.Replies.{reply_spelling}
use Rattle.tdisp_codec.proofs.Shapes.{reads_again}
use Rattle.tdisp_codec.proofs.Messages.{message_reader}
use Rattle.tdisp_codec.proofs.Replies.{codec, written_spells}
use Rattle.tdisp_codec.proofs.laws.reply_read_again.Goals as goal

pub returns-clause-spells : goal.returns-clause-spells
returns-clause-spells c = written_spells

pub returns-clause-reads : goal.returns-clause-reads
returns-clause-reads c = λ reply fits. reads_again (message_reader codec) reply (reply_spelling reply)
    (written_spells reply fits)
