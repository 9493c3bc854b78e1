pub mod Whole
pub mod Accesses
pub mod Worlds
pub use Rattle.join_world.specs.Worlds.{WorldView, WorldStandsFor, IsNewWorld, IsStep, HasStood, IsAsBefore}
pub use Rattle.join_world.specs.Accesses.{LinkSeen}
pub use Rattle.join_interfaces.specs.Says.{AreSecureStill, Keeps, is_said_secure, leaves_stream, says_by_ports}
pub use Rattle.whole_links.specs.{AccessesArrive, AccessesTurn, AreLeftBy, AreLinks, EndsView, InterfacesView}
pub use Rattle.whole_links.specs.{IsAnswered, KeeperView, LinkEnds, answer_of_links, arrival_in_state, beside_in}
pub use Rattle.whole_links.specs.{carried_on_link, device_draw, floors_at, grants_in, has_peer_if_there, has_peer_in}
pub use Rattle.whole_links.specs.{interface_named, links_state, live_of, peer_live, mmio_at, nothing_happens}
pub use Rattle.whole_links.specs.{managed_peer_stream, peers_drawn, policy_in, port_on, reads_at, runs_in, same_carried}
pub use Rattle.whole_links.specs.{same_floors, same_reads, sizes_at, statuses_of_ends, named_device_interface}
pub use Rattle.whole_links.specs.{interface_of_ends, trusting_on, AllFollow, Ends, HasNoVerdict, HostKeeper, IsBounded}
pub use Rattle.whole_links.specs.{IsFirst, IsLink, IsSettledOrSame, Links, BesideAfter, BesideArrival, BesideAsking}
pub use Rattle.whole_links.specs.{BesideCall, BesideInterface, BesideStays, BesideOperation, BesideBinding, BesideReset}
pub use Rattle.whole_links.specs.{StandsForSome, keyed_if, place_on_links, name_of, names_from_line, names_of}
pub use Rattle.whole_links.specs.{new_all_ends, new_ends, operated_on, ops_by_line, line_ops, state_of, reset_if}
pub use Rattle.whole_links.specs.{stream_named, told_by_link, told_by_peer, stopped_if, told_on_line, unit_tlps}
pub use Rattle.whole_links.specs.{views_after, waiting_reads_after, writes_by}
pub use Rattle.whole_links.specs.Accesses.{AccessesAfter, AccessesAnswer, AccessesForward, AccessesInterface}
pub use Rattle.whole_links.specs.Accesses.{AccessesReset, bars_named, carried_after_event, floors_set, floors_started}
pub use Rattle.whole_links.specs.Accesses.{reads_after_event}
pub use Rattle.whole_links.specs.Accesses.{flr_at, halted_in, happens_at, reset_happens}
pub use Rattle.whole_links.specs.Besides.{beside_whole, forward_in, host_stream, judged_bound, reader_of}
pub use Rattle.whole_links.specs.Besides.{bound_completion, claimed_completion, claim_bytes, requester_at}
pub use Rattle.whole_links.specs.Besides.{host_reply, reply_numbered, response_numbered, target_reply, reply_on_side}
pub use Rattle.whole_links.specs.Besides.{reply_oldest, reply_at_link, port_reply, small_number}
pub use Rattle.all_links.specs.{link_statuses, number_on_links}
pub use Rattle.whole_links.specs.Whole.{HasAllAccesses, IsFirstWhole, WholeEnds, WholeEndsOrHasNone, WholeStays}
pub use Rattle.whole_links.specs.declared.whole.WholeLinks.{WholeLinks}
pub use Rattle.join_interfaces.specs.Joined.{InterfaceOperationsJoin}
