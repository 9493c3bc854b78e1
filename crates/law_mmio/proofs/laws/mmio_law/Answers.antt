use Rattle.law_mmio.proofs.Law.{mmio_law as holds}
use Rattle.law_mmio.proofs.laws.mmio_law.Goals as goal

pub returns : goal.returns
returns c = holds
