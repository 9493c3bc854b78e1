use Rattle.join_keys.proofs.PairJoins.{pair_joined}
use Rattle.join_keys.proofs.laws.pair_operations_join.Goals as goal

pub returns : goal.returns
returns c = pair_joined
