-- The events of scripts and of histories with their variants; those without a family's name are of scripts.
pub use Rattle.script_events.specs.declared.event.Event.{Event}
pub use Rattle.script_events.specs.declared.event.Event.TheVariants as event
pub use Rattle.script_events.specs.declared.event.Loss.{Loss}
pub use Rattle.script_events.specs.declared.event.InterfaceEvent.TheVariants as ie
pub use Rattle.script_events.specs.declared.script.ScriptEvent.{ScriptEvent}
pub use Rattle.script_events.specs.declared.script.ScriptEvent.TheVariants.{Establish, Refresh, Stop, Send, PeerSend}
pub use Rattle.script_events.specs.declared.script.ScriptEvent.TheVariants.{
  Pass,
  Alter,
  Cut,
  Arrive,
  Dump,
  Reset,
  Status,
}
pub use Rattle.script_events.specs.declared.script.ScriptEvent.TheVariants.{Interface, Access, Peer, Hop}
pub use Rattle.script_events.specs.declared.script.PeerEvent.{PeerEvent}
pub use Rattle.script_events.specs.declared.script.PeerEvent.TheVariants as pe
pub use Rattle.script_events.specs.declared.script.HopEvent.{HopEvent}
pub use Rattle.script_events.specs.declared.script.HopEvent.TheVariants as he
