use Rattle.history_events.proofs.Allowed.{events_are_allowed}
use Rattle.history_events.proofs.event.events_are_allowed.Goals as goal

pub returns : goal.returns
returns c = events_are_allowed
