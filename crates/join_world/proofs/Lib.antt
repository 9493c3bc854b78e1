pub mod Faces
pub mod Places
pub mod Sites
pub mod Statuses
pub mod Owners
pub mod Besides
pub mod Asked
pub mod Rests
pub mod Follows
pub mod Kept
pub use Rattle.join_interfaces.proofs.Settled.{keeps_free}
pub use Rattle.join_interfaces.proofs.Calls.{StaysBound, asked_keeps}
pub use Rattle.join_interfaces.proofs.PeerEnds.{peer_line_is}
pub use Rattle.whole_links.proofs.{closed_at, end_found, ends_there, leaving_there, none_found, op_is, port_is}
pub use Rattle.whole_links.proofs.{sealing_there, set_read, unnamed, located_set}
