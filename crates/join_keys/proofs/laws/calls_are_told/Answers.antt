use Rattle.join_keys.proofs.Touched.{are_told}
use Rattle.join_keys.proofs.laws.calls_are_told.Goals as goal

pub returns : goal.returns
returns c = are_told
