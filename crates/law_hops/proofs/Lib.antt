pub mod TlpsRead
pub mod Queued
pub mod Claimed
pub mod Forwards
pub mod Since
pub mod Carried
pub mod Crossing
pub mod Crosses
pub mod Sends
pub use Rattle.law_delivery.proofs.Received.{came_fits, held_fits}
