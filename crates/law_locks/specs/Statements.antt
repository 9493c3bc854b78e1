-- The laws of locks, of every history in which each verdict is the one that is due.
use Rattle.ide_types.specs.declared.plan.Plan.{Plan}
use Rattle.spec_keys.specs.History.{History}
use Rattle.spec_links.specs.Cause.{CauseLaw}
use Rattle.law_locks.specs.Locks.{LockLaw, ReportsAreShown, ViewsAreTrue, UnlockedIsScrubbed}
use Rattle.law_locks.specs.Runs.{OneLockPerKey, AnswersLaw}

abbrev pub LockLawHolds : Type 0
LockLawHolds = (plan : Plan) (h : History) → CauseLaw plan h → LockLaw plan h

abbrev pub AttestedHolds : Type 0
AttestedHolds = (plan : Plan) (h : History) → CauseLaw plan h → ReportsAreShown plan h

abbrev pub ViewsAreTrueHolds : Type 0
ViewsAreTrueHolds = (plan : Plan) (h : History) → CauseLaw plan h → ViewsAreTrue plan h

abbrev pub ScrubbedHolds : Type 0
ScrubbedHolds = (plan : Plan) (h : History) → CauseLaw plan h → UnlockedIsScrubbed plan h

abbrev pub OneLockPerKeyHolds : Type 0
OneLockPerKeyHolds = (plan : Plan) (h : History) → CauseLaw plan h → OneLockPerKey plan h

abbrev pub AnswersLawHolds : Type 0
AnswersLawHolds = (plan : Plan) (h : History) → CauseLaw plan h → AnswersLaw plan h
