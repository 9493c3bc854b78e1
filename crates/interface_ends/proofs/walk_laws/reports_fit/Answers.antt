use Rattle.interface_ends.proofs.Kept.{reports_fit}
use Rattle.interface_ends.proofs.walk_laws.reports_fit.Goals as goal

pub returns : goal.returns
returns c = reports_fit
