-- The laws of honest links, of every history in which each verdict is the one that is due.
use Rattle.ide_types.specs.declared.plan.Plan.{Plan}
use Rattle.ide_types.specs.Fits.{FitsPlan}
use Rattle.spec_keys.specs.History.{History}
use Rattle.spec_links.specs.Cause.{CauseLaw}
use Rattle.law_honest.specs.ByOrder.{WholeLawByOrder}
use Rattle.law_honest.specs.Honest.{HonestLaw, HonestDeliveryLaw, FreshLaw, PassLaw}

abbrev pub WholeLawByOrderHolds : Type 0
WholeLawByOrderHolds = (plan : Plan) → FitsPlan plan → (h : History) → CauseLaw plan h → WholeLawByOrder plan h

abbrev pub HonestLawHolds : Type 0
HonestLawHolds = (plan : Plan) → FitsPlan plan → (h : History) → CauseLaw plan h → HonestLaw plan h

abbrev pub HonestDeliveryHolds : Type 0
HonestDeliveryHolds = (plan : Plan) → FitsPlan plan → (h : History) → CauseLaw plan h → HonestDeliveryLaw plan h

abbrev pub FreshLawHolds : Type 0
FreshLawHolds = (plan : Plan) (h : History) → CauseLaw plan h → FreshLaw plan h

abbrev pub PassLawHolds : Type 0
PassLawHolds = (plan : Plan) → FitsPlan plan → (h : History) → CauseLaw plan h → PassLaw plan h
