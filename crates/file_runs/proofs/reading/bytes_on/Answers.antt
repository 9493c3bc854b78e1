use Rattle.script_events.specs.Words.{words_in}
use Rattle.file_runs.proofs.Words.{seven_words}
use Rattle.file_runs.proofs.reading.bytes_on.Goals as goal

pub returns : goal.returns
returns c = rw (c.as_slice.ensures.value, c.words_of-words.ensures, seven_words (words_in c.args.line.now)) at
    c.bytes_in_words.ensures
