mod Ends
mod Replies
mod Answers
mod Forwards
mod Accesses
mod Arrivals
pub use Rattle.all_links.proofs.{closed_at, end_found, ends_there, machine_found, none_found, op_is, port_is}
pub use Rattle.all_links.proofs.{sealing_there, set_read, unnamed}
pub use Rattle.all_links.proofs.Asked.{located_set}
pub use Rattle.whole_links.proofs.Forwards.{leaving_there}
