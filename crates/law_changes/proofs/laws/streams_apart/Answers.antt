use Rattle.law_changes.proofs.StreamsApart.{streams_apart as holds}
use Rattle.law_changes.proofs.laws.streams_apart.Goals as goal

pub returns : goal.returns
returns c = holds
