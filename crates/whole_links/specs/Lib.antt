pub mod Besides
pub mod Packets
pub mod Accesses
pub mod Whole
pub use Rattle.all_links.specs.{AreLinks, EndsView, HostKeeper, InterfacesView, IsBounded, IsLink, KeeperView, LinkEnds}
pub use Rattle.all_links.specs.{code_behind, grants_in, keyed_if, live_of, peer_live, place_on_links, name_of}
pub use Rattle.all_links.specs.{names_from_line, names_of, new_all_ends, new_ends, operated_on, ops_by_line, line_ops}
pub use Rattle.all_links.specs.{port_in, port_on, state_of, stopped_if, trusting_on, unit_tlps, views_after, PairEnds}
pub use Rattle.all_links.specs.{bound_on, bound_trust, far_hop_trust, link_trust, live_at_port, live_for_operation}
pub use Rattle.all_links.specs.{pair_port, status_for_operation, stream_named, waiting_reads_after, writes_by}
pub use Rattle.all_links.specs.Accesses.{AccessesTurn, AreLeftBy, carried_on_link, device_draw, floors_at, mmio_at}
pub use Rattle.all_links.specs.Accesses.{nothing_happens, policy_in, reads_at, runs_in, same_carried, same_floors}
pub use Rattle.all_links.specs.Accesses.{same_reads, sizes_at, statuses_of_ends}
pub use Rattle.whole_links.specs.Accesses.{AccessesArrive}
pub use Rattle.all_links.specs.Besides.{IsAnswered, answer_of_links, beside_in}
pub use Rattle.all_links.specs.Interfaces.{device_interfaces, ended_if_there, ended_in, ended_on_link, firmware_as}
pub use Rattle.all_links.specs.Interfaces.{flr_as, has_peer_if_there, has_peer_in, interface_named, managed_peer_stream}
pub use Rattle.all_links.specs.Interfaces.{peer_verdict_in, memory_verdict, named_device_interface, interface_of_ends}
pub use Rattle.all_links.specs.Interfaces.{interface_seen_at, verdict_at_ends, verdict_in, viewed_as, written_as}
pub use Rattle.all_links.specs.Links.{Ends, HasNoVerdict, IsFirst, StandsForSome}
pub use Rattle.all_links.specs.BesideAfter.{AllFollow, IsSettledOrSame, BesideAfter, BesideArrival, BesideAsking}
pub use Rattle.all_links.specs.BesideAfter.{BesideCall, BesideBinding, BesideInterface, BesideStays, BesideOperation}
pub use Rattle.all_links.specs.BesideAfter.{BesideReset, arrival_in_state, peers_drawn, reset_if, told_on_line}
pub use Rattle.all_links.specs.BesideAfter.{told_by_link, told_by_peer}
pub use Rattle.all_links.specs.States.{links_state}
pub use Rattle.all_links.specs.declared.links.Links.{Links}
