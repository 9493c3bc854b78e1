pub mod Terms
pub mod Finds
pub mod Sends
pub mod Resets
mod Operations
pub mod Asked
mod Places
mod Settled
pub mod BesideAfter
pub use Rattle.line_arrivals.proofs.{find_at, port_is, wired, there, set_read, machine_found}
pub use Rattle.line_arrivals.proofs.Landing.{ends_there}
pub use Rattle.line_arrivals.proofs.{closed_at, end_found, none_found, op_is, sealed_there, sealing_there, unnamed}
