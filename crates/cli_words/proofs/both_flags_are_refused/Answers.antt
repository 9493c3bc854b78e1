use Rattle.cli_words.proofs.Generate.{both_flags}
use Rattle.cli_words.proofs.both_flags_are_refused.Goals as goal

pub returns : goal.returns
returns c = both_flags
