pub mod OnLinks
pub mod Accessed
pub mod Replied
pub mod Said
pub mod Rested
pub mod Turned
pub use Rattle.join_world.proofs.{StaysBound, asked_keeps, keeps_free, peer_line_is, closed_at, end_found, ends_there}
pub use Rattle.join_world.proofs.{leaving_there, located_set, none_found, op_is, port_is, sealing_there, set_read}
pub use Rattle.join_world.proofs.{unnamed}
pub use Rattle.join_world.proofs.Asked.{PeerFits, joined_is, peer_fits}
pub use Rattle.join_world.proofs.Besides.{grant_is, tdi_there}
pub use Rattle.join_world.proofs.Faces.{each_at, each_many, none_of, used_kept}
pub use Rattle.join_world.proofs.Follows.{IsLed, IsManagedAfter, OnlyLeaves, SameDevice, all_led, beside_led}
pub use Rattle.join_world.proofs.Follows.{led_follows, link_few, placed_keeps, placed_led, shows_state}
pub use Rattle.join_world.proofs.Kept.{AreBoth, IsState, absent_beside, answer_beside, dump_beside}
pub use Rattle.join_world.proofs.Kept.{elsewhere_beside, forward_beside, interface_step, managed_kept}
pub use Rattle.join_world.proofs.Kept.{memory_beside, mmio_beside, nothing_beside, send_beside, status_beside}
pub use Rattle.join_world.proofs.Kept.{response_beside, unasked_beside, view_beside, written_is, written_kept}
pub use Rattle.join_world.proofs.Owners.{requester_found, requester_nowhere, requester_true}
pub use Rattle.join_world.proofs.Places.{IsSomeSite, get_there, position_at, position_none, site_or_none, site_planned}
pub use Rattle.join_world.proofs.Statuses.{live_is}
pub use Rattle.join_accesses.proofs.Accessed.{statuses_are}
pub use Rattle.join_world.proofs.Rests.{draw_of_packets, is_of_packets, is_of_peer, is_of_ports}
pub use Rattle.join_world.proofs.Rests.{managed_of_packets, next_of_ports, none_of_ports, of_ports}
pub use Rattle.join_world.proofs.Sites.{face_found, interface_absent, interface_there, located_apart, located_kept}
pub use Rattle.join_world.proofs.Sites.{IsLocated, face_absent, located_read, site_apart, site_numbered}
