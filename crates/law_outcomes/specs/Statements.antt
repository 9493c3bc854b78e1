-- The laws of outcomes, of every history in which each verdict is the one that is due.
use Rattle.ide_types.specs.declared.plan.Plan.{Plan}
use Rattle.ide_types.specs.Fits.{FitsPlan}
use Rattle.spec_keys.specs.History.{History}
use Rattle.spec_links.specs.Cause.{CauseLaw}
use Rattle.law_outcomes.specs.Operations.{OperationLaw}
use Rattle.law_outcomes.specs.Recovery.{RecoveryLaw}
use Rattle.law_outcomes.specs.Blocks.{BlockLaw}
use Rattle.law_outcomes.specs.Failures.{FailLaw}
use Rattle.law_outcomes.specs.Shown.{ShownLaw}

abbrev pub OperationLawHolds : Type 0
OperationLawHolds = (plan : Plan) → FitsPlan plan → (h : History) → CauseLaw plan h → OperationLaw plan h

abbrev pub RecoveryLawHolds : Type 0
RecoveryLawHolds = (plan : Plan) → FitsPlan plan → (h : History) → CauseLaw plan h → RecoveryLaw plan h

abbrev pub ShownLawHolds : Type 0
ShownLawHolds = (plan : Plan) (h : History) → CauseLaw plan h → ShownLaw plan h

abbrev pub BlockLawHolds : Type 0
BlockLawHolds = (plan : Plan) (h : History) → CauseLaw plan h → BlockLaw plan h

abbrev pub FailLawHolds : Type 0
FailLawHolds = (plan : Plan) (h : History) → CauseLaw plan h → FailLaw plan h
