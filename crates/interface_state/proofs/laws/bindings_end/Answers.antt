use Rattle.interface_state.proofs.Bound.{bindings_end}
use Rattle.interface_state.proofs.laws.bindings_end.Goals as goal

pub returns : goal.returns
returns c = bindings_end
