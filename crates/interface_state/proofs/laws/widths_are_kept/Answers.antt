use Rattle.interface_state.proofs.Widths.{widths_are_kept}
use Rattle.interface_state.proofs.laws.widths_are_kept.Goals as goal

pub returns : goal.returns
returns c = widths_are_kept
