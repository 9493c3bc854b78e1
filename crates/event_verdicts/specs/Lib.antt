pub mod Terms
pub mod Causes
pub mod Words
pub mod InterfaceLines
pub mod AccessLines
pub mod Lines
pub mod Shown
pub mod Apart
-- what clauses and crates above cite
pub use Rattle.ide_types.specs.Names.{Text, joined_words}
pub use Rattle.event_verdicts.specs.Terms.{AccessVerdict, BlockCause, Effect, Operation, SealedPacket, UnitName}
pub use Rattle.event_verdicts.specs.Terms.{Totals, Verdict}
pub use Rattle.event_verdicts.specs.Causes.{binding_cause, is_stream, stale_cause}
pub use Rattle.event_verdicts.specs.Lines.{verdict_words, line_of, totals_line_of, IsSendRefusal, IsArrival}
pub use Rattle.event_verdicts.specs.Lines.{IsOperationRefusal, IsOutcome}
pub use Rattle.event_verdicts.specs.InterfaceLines.{
  interface_words,
  FitsInterfaceVerdict,
  IsInterfaceRefusal,
  ShowsBytes,
}
pub use Rattle.event_verdicts.specs.AccessLines.{access_words, FitsAccessVerdict}
pub use Rattle.event_verdicts.specs.Shown.{verdict_by_ports}
pub use Rattle.event_verdicts.specs.Apart.{Fits, LinesApart}
