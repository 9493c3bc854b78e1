-- The laws of what crosses hops, of every history in which each verdict is the one that is due.
use Rattle.ide_types.specs.declared.plan.Plan.{Plan}
use Rattle.ide_types.specs.Fits.{FitsPlan}
use Rattle.spec_keys.specs.History.{History}
use Rattle.spec_links.specs.Cause.{CauseLaw}
use Rattle.spec_links.specs.Laws.{TotalsFit}
use Rattle.law_crossings.specs.HopTrust.{HopTrustLaw}
use Rattle.law_crossings.specs.HopOrder.{CrossesSome, CrossesBehindPosted}

abbrev pub HopTrustLawHolds : Type 0
HopTrustLawHolds = (plan : Plan) → FitsPlan plan → (h : History) → CauseLaw plan h → HopTrustLaw plan h

abbrev pub HopOrderLawHolds : Type 0
HopOrderLawHolds = (plan : Plan) → FitsPlan plan → (h : History) → CauseLaw plan h → CrossesSome plan h

abbrev pub HopPostedLawHolds : Type 0
HopPostedLawHolds = (plan : Plan) → FitsPlan plan → (h : History) → CauseLaw plan h → TotalsFit plan h
    → CrossesBehindPosted plan h
