use Rattle.law_reads.proofs.Followed.{waiting_follows as holds}
use Rattle.law_reads.proofs.laws.waiting_follows.Goals as goal

pub returns : goal.returns
returns c = holds
