use Rattle.law_bytes.proofs.AllLaws.{mmio_origin_law as holds}
use Rattle.law_bytes.proofs.laws.mmio_origin_law.Goals as goal

pub returns : goal.returns
returns c = holds
