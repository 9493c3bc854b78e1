use Rattle.cli_words.proofs.Forms.{no_words}
use Rattle.cli_words.proofs.no_words_are_refused.Goals as goal

pub returns : goal.returns
returns c = no_words
