use Rattle.law_text.proofs.Fitting.{due_fits as holds}
use Rattle.law_text.proofs.laws.due_fits.Goals as goal

pub returns : goal.returns
returns c = holds
