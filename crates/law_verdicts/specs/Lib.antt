pub mod Verdicts
pub mod Effects
pub mod Answers
pub mod Statements
-- the laws, with those of locks
pub use Rattle.law_verdicts.specs.Verdicts.{FailedLaw, NamedLaw}
pub use Rattle.law_verdicts.specs.Effects.{EffectLaw}
pub use Rattle.law_verdicts.specs.Answers.{AnswerLaw}
pub use Rattle.law_locks.specs.Locks.{ReportsAreShown, LockLaw, UnlockedIsScrubbed, ViewsAreTrue}
pub use Rattle.law_locks.specs.Runs.{AnswersLaw, OneLockPerKey}
-- what crates above cite
pub use Rattle.law_locks.specs.Fronts.{AtEach, AtPairs}
pub use Rattle.law_locks.specs.{CameFrom, Carries, IsBoundPacket, claimed_write, if_claims, if_stored}
pub use Rattle.law_locks.specs.{unit_stored_writes, stores, write_read}
