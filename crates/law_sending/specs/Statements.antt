-- The laws of what goes out, of every history in which each verdict is the one that is due.
use Rattle.std.specs.Prelude.{ℕ}
use Rattle.ide_types.specs.declared.plan.Plan.{Plan}
use Rattle.ide_types.specs.Fits.{FitsPlan}
use Rattle.spec_keys.specs.History.{History}
use Rattle.spec_links.specs.Cause.{CauseLaw}
use Rattle.law_sending.specs.Choice.{ChoiceLaw}
use Rattle.law_sending.specs.Trust.{ExactTrustLaw}
use Rattle.law_sending.specs.Sends.{SendLaw}
use Rattle.law_sending.specs.Origins.{SealedComesFrom}
use Rattle.law_sending.specs.Covered.{CoverLaw}

abbrev pub ChoiceLawHolds : Type 0
ChoiceLawHolds = (plan : Plan) → FitsPlan plan → (h : History) → CauseLaw plan h → ChoiceLaw plan h

abbrev pub ExactTrustLawHolds : Type 0
ExactTrustLawHolds = (plan : Plan) → FitsPlan plan → (h : History) → CauseLaw plan h → ExactTrustLaw plan h

abbrev pub SendLawHolds : Type 0
SendLawHolds = (plan : Plan) → FitsPlan plan → (h : History) → CauseLaw plan h → SendLaw plan h

abbrev pub SealedComesFromHolds : Type 0
SealedComesFromHolds = (plan : Plan) → FitsPlan plan → (h : History) → CauseLaw plan h → SealedComesFrom plan h

abbrev pub CoverLawHolds : Type 0
CoverLawHolds = (plan : Plan) (link : ℕ) → CoverLaw plan link
