use Rattle.law_device_reads.proofs.AllLaws.{exposure_law as holds}
use Rattle.law_device_reads.proofs.laws.exposure_law.Goals as goal

pub returns : goal.returns
returns c = holds
