-- what crates above cite
pub use Rattle.join_world.specs.Worlds.{WorldView, WorldStandsFor, IsNewWorld, IsStep, HasStood, IsAsBefore, IsWorld}
pub use Rattle.join_world.specs.Worlds.{world_of}
pub use Rattle.join_world.specs.Whole.{AreDrawn, IsBeside, IsDevice, IsPlaced}
pub use Rattle.join_world.specs.Accesses.{AreAccesses, LinkSeen, on_link, link_seen}
pub use Rattle.join_world.specs.{AccessesAfter, AccessesAnswer, AccessesArrive, AccessesForward, AccessesInterface}
pub use Rattle.join_world.specs.{AccessesReset, AccessesTurn, AllFollow, AreLeftBy, AreLinks, AreSecureStill, Ends}
pub use Rattle.join_world.specs.{EndsView, HasNoVerdict, HostKeeper, InterfacesView, IsAnswered, IsBounded, IsFirst}
pub use Rattle.join_world.specs.{IsFirstWhole, IsLink, IsSettledOrSame, HasAllAccesses, KeeperView, Keeps, LinkEnds}
pub use Rattle.join_world.specs.{Links, BesideAfter, BesideArrival, BesideAsking, BesideCall, BesideInterface}
pub use Rattle.join_world.specs.{BesideStays, BesideOperation, BesideBinding, BesideReset, StandsForSome, WholeEnds}
pub use Rattle.join_world.specs.{WholeEndsOrHasNone, WholeLinks, WholeStays, answer_of_links, arrival_in_state}
pub use Rattle.join_world.specs.{bars_named, beside_in, beside_whole, carried_on_link, carried_after_event, device_draw}
pub use Rattle.join_world.specs.{floors_at, floors_set, floors_started, flr_at, forward_in, grants_in, halted_in}
pub use Rattle.join_world.specs.{happens_at, has_peer_if_there, has_peer_in, host_stream, interface_named}
pub use Rattle.join_world.specs.{is_said_secure, judged_bound, keyed_if, leaves_stream, links_state, live_of, peer_live}
pub use Rattle.join_world.specs.{place_on_links, mmio_at, name_of, names_from_line, names_of, new_all_ends, new_ends}
pub use Rattle.join_world.specs.{nothing_happens, operated_on, ops_by_line, line_ops, managed_peer_stream, peers_drawn}
pub use Rattle.join_world.specs.{policy_in, port_on, reader_of, reads_at, bound_completion, claimed_completion}
pub use Rattle.join_world.specs.{reply_numbered, reply_oldest, reads_after_event, reset_happens, runs_in, same_carried}
pub use Rattle.join_world.specs.{same_floors}
pub use Rattle.join_world.specs.{same_reads, says_by_ports, sizes_at, small_number, statuses_of_ends, state_of}
pub use Rattle.join_world.specs.{stopped_if, named_device_interface, interface_of_ends, told_on_line, trusting_on}
pub use Rattle.join_world.specs.{unit_tlps, views_after, waiting_reads_after, writes_by, reset_if, stream_named}
pub use Rattle.join_world.specs.{told_by_link, told_by_peer}
pub use Rattle.join_world.specs.{claim_bytes, requester_at, host_reply, response_numbered, target_reply, reply_on_side}
pub use Rattle.join_world.specs.{reply_at_link, port_reply, link_statuses, number_on_links}
