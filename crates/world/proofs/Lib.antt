pub mod First
pub mod Told
pub mod Begins
pub mod Arrives
pub mod Calls
pub mod Asks
pub mod Resets
pub mod Operates
pub mod Turns
pub mod Worlds
pub use Rattle.join_accesses.proofs.{IsLocated, IsSomeSite, closed_at, end_found, ends_there, face_absent, face_found}
pub use Rattle.join_accesses.proofs.{get_there, interface_absent, interface_there, leaving_there, located_read, live_is}
pub use Rattle.join_accesses.proofs.{none_found, op_is, peer_line_is, port_is, position_at, position_none}
pub use Rattle.join_accesses.proofs.{requester_found, statuses_are, requester_nowhere, requester_true, sealing_there}
pub use Rattle.join_accesses.proofs.{site_apart, site_numbered, site_or_none, tdi_there, unnamed}
