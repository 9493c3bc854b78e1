use Rattle.join_keys.proofs.Touched.{are_touches}
use Rattle.join_keys.proofs.laws.calls_are_touches.Goals as goal

pub returns : goal.returns
returns c = are_touches
