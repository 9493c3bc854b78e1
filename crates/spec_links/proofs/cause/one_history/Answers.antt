use Rattle.spec_links.proofs.OneHistory.{one_history as holds}
use Rattle.spec_links.proofs.cause.one_history.Goals as goal

pub returns : goal.returns
returns c = holds
