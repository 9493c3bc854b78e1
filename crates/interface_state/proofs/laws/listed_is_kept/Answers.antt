use Rattle.interface_state.proofs.ListedParts.{listed_is_kept}
use Rattle.interface_state.proofs.laws.listed_is_kept.Goals as goal

pub returns : goal.returns
returns c = listed_is_kept
