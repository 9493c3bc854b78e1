-- The laws of what goes out.
use Rattle.law_locks.proofs.Fronts.{pairs_due}
use Rattle.law_sending.specs.Choice.{IsChosen}
use Rattle.law_sending.specs.Trust.{HaveTheirT}
use Rattle.law_sending.specs.Sends.{AnswersSend}
use Rattle.law_sending.specs.Statements.{ChoiceLawHolds, ExactTrustLawHolds, SendLawHolds}
use Rattle.law_sending.specs.Statements.{SealedComesFromHolds, CoverLawHolds}
use Rattle.law_sending.specs.Origins.{HaveSources}
use Rattle.law_sending.proofs.Choice.{chosen}
use Rattle.law_sending.proofs.Trust.{have_t}
use Rattle.law_sending.proofs.Sends.{answers_sends}
use Rattle.law_sending.proofs.Origins.{have_sources}
use Rattle.law_sending.proofs.Covered.{covered}

pub choice_law : ChoiceLawHolds
choice_law plan fits h cause = pairs_due plan (IsChosen plan) (chosen plan fits) h cause

pub exact_trust_law : ExactTrustLawHolds
exact_trust_law plan fits h cause = pairs_due plan (HaveTheirT plan) (have_t plan fits) h cause

pub send_law : SendLawHolds
send_law plan fits h cause = pairs_due plan (AnswersSend plan) (answers_sends plan fits) h cause

pub sealed_comes_from : SealedComesFromHolds
sealed_comes_from plan fits h cause = pairs_due plan (HaveSources plan) (have_sources plan fits) h cause

pub cover_law : CoverLawHolds
cover_law plan link = covered plan link
