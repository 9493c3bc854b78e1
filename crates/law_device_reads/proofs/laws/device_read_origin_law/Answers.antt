use Rattle.law_device_reads.proofs.AllLaws.{device_read_origin_law as holds}
use Rattle.law_device_reads.proofs.laws.device_read_origin_law.Goals as goal

pub returns : goal.returns
returns c = holds
