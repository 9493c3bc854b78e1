use Rattle.law_device_reads.proofs.AllLaws.{device_effect_law as holds}
use Rattle.law_device_reads.proofs.laws.device_effect_law.Goals as goal

pub returns : goal.returns
returns c = holds
