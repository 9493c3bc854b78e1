-- The law of guarded memory.
use Rattle.std.specs.Prelude.{◌∷◌, []}
use Rattle.law_mmio.specs.Statements.{MmioLawHolds}
use Rattle.law_mmio.proofs.Shown.{shows_stored}
use Rattle.law_mmio.proofs.Guards.{guards_bytes}
use Rattle.law_mmio.proofs.Starts.{keeps_floors}

pub mmio_law : MmioLawHolds
mmio_law plan [] cause = tt
mmio_law plan ((e, w) ∷ h) cause = (
  shows_stored plan h e w cause.1 cause.0,
  guards_bytes plan h e w cause.0,
  keeps_floors plan ((e, w) ∷ h) cause,
  mmio_law plan h cause.1,
)
