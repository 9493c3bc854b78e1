use Rattle.law_bindings.proofs.StreamAlone.{streams_stand_alone as holds}
use Rattle.law_bindings.proofs.laws.streams_stand_alone.Goals as goal

pub returns : goal.returns
returns c = holds
