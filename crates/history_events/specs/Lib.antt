pub mod Terms
pub mod Events
pub mod Laws
pub mod GeneratedTopology
pub mod GeneratedEvents
pub mod Forms
pub mod Left
pub mod ScriptText
pub mod TopologyText
pub mod TextLaws
-- what clauses and crates above cite
unfoldable pub use Rattle.history_events.specs.Events.{event_of}
pub use Rattle.history_events.specs.Laws.{EventsAreAllowed}
