-- The laws of what is delivered, of every history in which each verdict is the one that is due.
use Rattle.ide_types.specs.declared.plan.Plan.{Plan}
use Rattle.ide_types.specs.Fits.{FitsPlan}
use Rattle.spec_keys.specs.History.{History}
use Rattle.spec_links.specs.Cause.{CauseLaw}
use Rattle.spec_links.specs.Laws.{DrawsNeverFall, WholeLaw, OrderIsNoForgery}

abbrev pub WholeLawHolds : Type 0
WholeLawHolds = (plan : Plan) → FitsPlan plan → (h : History) → CauseLaw plan h → WholeLaw plan h

abbrev pub OrderIsNoForgeryHolds : Type 0
OrderIsNoForgeryHolds = (plan : Plan) → FitsPlan plan → (h : History) → CauseLaw plan h → OrderIsNoForgery plan h

abbrev pub DrawsNeverFallHolds : Type 0
DrawsNeverFallHolds = (plan : Plan) → (h : History) → CauseLaw plan h → DrawsNeverFall h
