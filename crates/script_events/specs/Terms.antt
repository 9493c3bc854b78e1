-- The types of this crate with their variants; those of events are the variants of a script's.
pub use Rattle.script_events.specs.declared.event.Event.{Event}
pub use Rattle.script_events.specs.declared.event.Event.TheVariants as event
pub use Rattle.script_events.specs.declared.script.ScriptEvent.{ScriptEvent}
pub use Rattle.script_events.specs.declared.script.ScriptEvent.TheVariants.{Establish, Refresh, Stop, Send, PeerSend}
pub use Rattle.script_events.specs.declared.script.ScriptEvent.TheVariants.{
  Pass,
  Alter,
  Cut,
  Arrive,
  Dump,
  Reset,
  Status,
}
pub use Rattle.script_events.specs.declared.script.ScriptEvent.TheVariants.{Interface, Access, Peer, Hop}
pub use Rattle.script_events.specs.declared.script.PeerEvent.{PeerEvent}
pub use Rattle.script_events.specs.declared.script.PeerEvent.TheVariants as pe
pub use Rattle.script_events.specs.declared.script.HopEvent.{HopEvent}
pub use Rattle.script_events.specs.declared.script.HopEvent.TheVariants as he
pub use Rattle.script_events.specs.declared.event.InterfaceEvent.{InterfaceEvent}
pub use Rattle.script_events.specs.declared.event.InterfaceEvent.TheVariants as ie
pub use Rattle.script_events.specs.declared.event.AccessEvent.{AccessEvent}
pub use Rattle.script_events.specs.declared.event.AccessEvent.TheVariants as ae
pub use Rattle.script_events.specs.declared.event.Loss.{Loss}
pub use Rattle.script_events.specs.declared.event.Lost.{Lost}
pub use Rattle.script_events.specs.declared.event.Lost.TheVariants.{Request, Reply}
pub use Rattle.script_events.specs.declared.fault.LineFault.{LineFault}
pub use Rattle.script_events.specs.declared.fault.LineFault.TheVariants.{Word, Count, Number, Hex, TooLong, NotAscii}
pub use Rattle.script_events.specs.declared.fault.LineFault.TheVariants as fault
pub use Rattle.script_events.specs.declared.fault.LineError.{LineError}
pub use Rattle.script_events.specs.declared.fault.LineError.TheVariants as error
