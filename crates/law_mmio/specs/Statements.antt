-- The law of guarded memory, of every history in which each verdict is the one that is due.
use Rattle.ide_types.specs.declared.plan.Plan.{Plan}
use Rattle.spec_keys.specs.History.{History}
use Rattle.spec_links.specs.Cause.{CauseLaw}
use Rattle.law_mmio.specs.Mmio.{MmioLaw}

abbrev pub MmioLawHolds : Type 0
MmioLawHolds = (plan : Plan) (h : History) → CauseLaw plan h → MmioLaw plan h
