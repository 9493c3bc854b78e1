pub mod Follows
pub mod Landing
-- what proofs above cite
pub use Rattle.join_interfaces.proofs.PeerEnds.{peer_end_is, peer_line_is}
pub use Rattle.join_arrivals.proofs.Arrivals.{dumps}
pub use Rattle.join_arrivals.proofs.{sealed_there, is_located, keeper_reset, links_reset, reset_grows, state_reset}
pub use Rattle.join_arrivals.proofs.{sealing_there, at_port, cut_joined, lengths_join, sealed_on}
pub use Rattle.join_arrivals.proofs.{send_keeps, sends_as, state_after_send, sent_at_port, IsName, at_side, end_found}
pub use Rattle.join_arrivals.proofs.{name_is, op_is, planned, closed_at, none_found, some_op, unnamed}
pub use Rattle.join_arrivals.proofs.Operations.{Operated, WorksOn, operated, operates_grow, some_named, step_none}
pub use Rattle.join_arrivals.proofs.Operations.{step_not}
pub use Rattle.join_interfaces.proofs.NoBadReply.{answered_no_bad_reply}
pub use Rattle.all_ends.proofs.ByPlace.{changed_is, each_set, seen_same, there}
pub use Rattle.join_arrivals.proofs.{on_id, reads_same, seal_is_send, seals_as}
pub use Rattle.all_ends.proofs.Finds.{find_at, port_is, wired}
pub use Rattle.all_ends.proofs.Kept.{Grows, Keeps, KeepsEnds, as_before, bounded_then, end_grows, end_kept, links_grow}
pub use Rattle.all_ends.proofs.Kept.{links_kept}
pub use Rattle.all_ends.proofs.{set_read, IsNamed, named_stands, found_id, machine_found}
