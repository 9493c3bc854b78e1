use Rattle.interface_state.proofs.SharedBytes.{overlap_is_shared, overlaps_are_pairs}
use Rattle.interface_state.proofs.laws.overlaps_are_shared.Goals as goal

pub returns-clause-bytes : goal.returns-clause-bytes
returns-clause-bytes c = overlap_is_shared

pub returns-clause-pairs : goal.returns-clause-pairs
returns-clause-pairs c = overlaps_are_pairs
