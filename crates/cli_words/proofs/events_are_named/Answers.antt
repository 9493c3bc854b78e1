use Rattle.cli_words.proofs.Rounds.{named_event}
use Rattle.cli_words.proofs.events_are_named.Goals as goal

pub returns : goal.returns
returns c = named_event
