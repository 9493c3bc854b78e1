use Rattle.law_sending.proofs.AllLaws.{send_law as holds}
use Rattle.law_sending.proofs.laws.send_law.Goals as goal

pub returns : goal.returns
returns c = holds
