-- The laws of verdicts.
use Rattle.law_locks.proofs.Fronts.{pairs_due}
use Rattle.law_verdicts.specs.Statements.{FailedLawHolds, NamedLawHolds, EffectLawHolds, AnswerLawHolds}
use Rattle.law_verdicts.specs.Verdicts.{IsOfWhole, IsNoneExactly}
use Rattle.law_verdicts.proofs.Failed.{of_whole}
use Rattle.law_verdicts.proofs.Named.{none_exactly}
use Rattle.law_verdicts.specs.Effects.{HasExactEffects}
use Rattle.law_verdicts.proofs.Effects.{exact_effects}
use Rattle.law_verdicts.specs.Answers.{AnswersWhole}
use Rattle.law_verdicts.proofs.Answers.{answers_whole}

pub failed_law : FailedLawHolds
failed_law plan h cause = pairs_due plan IsOfWhole (λ g e w c. of_whole plan g e w c.0) h cause

pub named_law : NamedLawHolds
named_law plan h cause = pairs_due plan (IsNoneExactly plan) (none_exactly plan) h cause

pub effect_law : EffectLawHolds
effect_law plan h cause = pairs_due plan (HasExactEffects plan) (λ g e w c. exact_effects plan g e w c.0) h cause

pub answer_law : AnswerLawHolds
answer_law plan h cause = pairs_due plan (AnswersWhole plan) (answers_whole plan) h cause
