pub mod KeyStream
pub mod ByteOrigin
pub mod MmioOrigin
pub mod Statements
pub mod NoOtherRun
pub mod LocalLaws
-- the laws, with those of verdicts and of locks
pub use Rattle.law_bytes.specs.KeyStream.{KeyStreamFresh}
pub use Rattle.law_verdicts.specs.{AnswerLaw, AnswersLaw, ReportsAreShown, EffectLaw, FailedLaw, LockLaw, NamedLaw}
pub use Rattle.law_verdicts.specs.{OneLockPerKey, UnlockedIsScrubbed, ViewsAreTrue}
