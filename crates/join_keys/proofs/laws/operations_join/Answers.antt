use Rattle.join_keys.proofs.Joins.{joined}
use Rattle.join_keys.proofs.laws.operations_join.Goals as goal

pub returns : goal.returns
returns c = joined c.calls_are_touches.ensures
