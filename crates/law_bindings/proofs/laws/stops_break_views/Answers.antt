use Rattle.law_bindings.proofs.AllLaws.{stops_break_views as holds}
use Rattle.law_bindings.proofs.laws.stops_break_views.Goals as goal

pub returns : goal.returns
returns c = holds
