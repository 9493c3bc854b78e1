-- The laws, of every history in which each verdict is the one that is due; that of what is inert is of every history.
use Rattle.ide_types.specs.declared.plan.Plan.{Plan}
use Rattle.ide_types.specs.Fits.{FitsPlan}
use Rattle.spec_links.specs.Cause.{CauseLaw}
use Rattle.spec_keys.specs.History.{History}
use Rattle.law_changes.specs.Inert.{InertLaw}
use Rattle.law_changes.specs.Resets.{ResetLaw}
use Rattle.law_changes.specs.Switches.{ExactThroughLaw}
use Rattle.law_changes.specs.StreamsApart.{ApartLaw}

abbrev pub InertLawHolds : Type 0
InertLawHolds = (plan : Plan) (h : History) → InertLaw plan h

abbrev pub ResetLawHolds : Type 0
ResetLawHolds = (plan : Plan) → FitsPlan plan → (h : History) → CauseLaw plan h → ResetLaw plan h

abbrev pub ExactThroughLawHolds : Type 0
ExactThroughLawHolds = (plan : Plan) → FitsPlan plan → (h : History) → CauseLaw plan h → ExactThroughLaw plan h

abbrev pub ApartLawHolds : Type 0
ApartLawHolds = (plan : Plan) (h : History) → CauseLaw plan h → ApartLaw plan h
