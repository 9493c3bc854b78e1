-- The laws of verdicts, of every history in which each verdict is the one that is due.
use Rattle.ide_types.specs.declared.plan.Plan.{Plan}
use Rattle.spec_keys.specs.History.{History}
use Rattle.spec_links.specs.Cause.{CauseLaw}
use Rattle.law_verdicts.specs.Verdicts.{FailedLaw, NamedLaw}
use Rattle.law_verdicts.specs.Effects.{EffectLaw}
use Rattle.law_verdicts.specs.Answers.{AnswerLaw}

abbrev pub FailedLawHolds : Type 0
FailedLawHolds = (plan : Plan) (h : History) → CauseLaw plan h → FailedLaw plan h

abbrev pub NamedLawHolds : Type 0
NamedLawHolds = (plan : Plan) (h : History) → CauseLaw plan h → NamedLaw plan h

abbrev pub EffectLawHolds : Type 0
EffectLawHolds = (plan : Plan) (h : History) → CauseLaw plan h → EffectLaw plan h

abbrev pub AnswerLawHolds : Type 0
AnswerLawHolds = (plan : Plan) (h : History) → CauseLaw plan h → AnswerLaw plan h
