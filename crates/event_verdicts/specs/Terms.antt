-- The types of this crate with their variants.
pub use Rattle.event_verdicts.specs.declared.verdict.BlockCause.{BlockCause}
pub use Rattle.event_verdicts.specs.declared.verdict.BlockCause.TheVariants.{NotTrusted, NotRunning, WrongStream, Stale}
pub use Rattle.event_verdicts.specs.declared.verdict.BlockCause.TheVariants.{Outside, Crosses, Full, Moved}
pub use Rattle.event_verdicts.specs.declared.verdict.Effect.{Effect}
pub use Rattle.event_verdicts.specs.declared.verdict.Effect.TheVariants.{Sync, Delivered, Applied, Queued, Stored}
pub use Rattle.event_verdicts.specs.declared.verdict.Effect.TheVariants.{Waiting, Blocked}
pub use Rattle.event_verdicts.specs.declared.verdict.Operation.{Operation}
pub use Rattle.event_verdicts.specs.declared.verdict.Operation.TheVariants as operation
pub use Rattle.event_verdicts.specs.declared.verdict.SealedPacket.{SealedPacket}
pub use Rattle.event_verdicts.specs.declared.verdict.UnitName.{UnitName}
pub use Rattle.event_verdicts.specs.declared.verdict.Totals.{Totals}
pub use Rattle.event_verdicts.specs.declared.verdict.Verdict.{Verdict}
pub use Rattle.event_verdicts.specs.declared.verdict.Verdict.TheVariants.{Nothing, Malformed, Plain, RefusedInsecure}
pub use Rattle.event_verdicts.specs.declared.verdict.Verdict.TheVariants.{RefusedNoKey, RefusedUnfinished, RefusedWorn}
pub use Rattle.event_verdicts.specs.declared.verdict.Verdict.TheVariants.{Sealed, Unknown, Insecure, NotKeyed, Fail}
pub use Rattle.event_verdicts.specs.declared.verdict.Verdict.TheVariants.{Held, Accepted, Established, Refreshed}
pub use Rattle.event_verdicts.specs.declared.verdict.Verdict.TheVariants.{Stopped, LostRequest, LostReply}
pub use Rattle.event_verdicts.specs.declared.verdict.Verdict.TheVariants.{RefusedNotIdle, RefusedNotSecure}
pub use Rattle.event_verdicts.specs.declared.verdict.Verdict.TheVariants.{RefusedPoolEmpty, RefusedDevice, RefusedBusy}
pub use Rattle.event_verdicts.specs.declared.verdict.Verdict.TheVariants.{RefusedUnitOpen, Packet, Reset, Status}
pub use Rattle.event_verdicts.specs.declared.verdict.Verdict.TheVariants.{Interface, Access, Through}
pub use Rattle.event_verdicts.specs.declared.access.AccessVerdict.{AccessVerdict}
pub use Rattle.event_verdicts.specs.declared.access.AccessVerdict.TheVariants as av
