-- The laws of bytes, of every history in which each verdict is the one that is due.
use Rattle.ide_types.specs.declared.plan.Plan.{Plan}
use Rattle.ide_types.specs.Fits.{FitsPlan}
use Rattle.spec_keys.specs.History.{History}
use Rattle.spec_links.specs.Cause.{CauseLaw}
use Rattle.law_bytes.specs.KeyStream.{KeyStreamFresh}

abbrev pub KeyStreamFreshHolds : Type 0
KeyStreamFreshHolds = (plan : Plan) → FitsPlan plan → (h : History) → CauseLaw plan h → KeyStreamFresh plan h
