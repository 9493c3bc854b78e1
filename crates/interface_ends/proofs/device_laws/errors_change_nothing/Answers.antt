use Rattle.interface_ends.proofs.Errors.{errors_change_nothing}
use Rattle.interface_ends.proofs.device_laws.errors_change_nothing.Goals as goal

pub returns : goal.returns
returns c = errors_change_nothing
