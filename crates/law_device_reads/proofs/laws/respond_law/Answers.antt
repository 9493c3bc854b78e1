use Rattle.law_device_reads.proofs.AllLaws.{respond_law as holds}
use Rattle.law_device_reads.proofs.laws.respond_law.Goals as goal

pub returns : goal.returns
returns c = holds
