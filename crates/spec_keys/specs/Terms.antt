-- The types and words that the definitions of keys speak of.
pub use Rattle.ide_types.specs.declared.sub.SubKind.{SubKind}
pub use Rattle.ide_types.specs.declared.sub.SubKind.TheVariants.{Pr, Npr, Cpl}
pub use Rattle.ide_types.specs.declared.port.Side.{Side}
pub use Rattle.ide_types.specs.declared.port.Side.TheVariants.{Host, Device}
pub use Rattle.ide_types.specs.declared.port.PortName.{PortName}
pub use Rattle.script_events.specs.declared.event.Event.{Event}
pub use Rattle.script_events.specs.declared.event.Loss.{Loss}
pub use Rattle.script_events.specs.declared.event.Lost.{Lost}
pub use Rattle.script_events.specs.declared.event.Lost.TheVariants.{Request, Reply}
pub use Rattle.event_verdicts.specs.declared.verdict.Operation.{Operation}
pub use Rattle.event_verdicts.specs.declared.verdict.Verdict.{Verdict}
pub use Rattle.event_verdicts.specs.declared.verdict.SealedPacket.{SealedPacket}
pub use Rattle.std.specs.List.{list_any, list_all}
pub use Rattle.std.specs.Option.{option_or, unwrap_or}
pub use Rattle.ide_types.specs.declared.status.StreamStatus.{StreamStatus}
