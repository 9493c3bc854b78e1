use Rattle.spec_interfaces.proofs.Views.{views_hold as holds}
use Rattle.spec_interfaces.proofs.laws.views_hold.Goals as goal

pub returns : goal.returns
returns c = holds
