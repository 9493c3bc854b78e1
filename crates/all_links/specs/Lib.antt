pub mod Events
pub mod States
pub mod Links
pub mod Interfaces
pub mod Accesses
pub mod Besides
pub mod BesideAfter
pub use Rattle.line_arrivals.specs.{EndsView, live_of, peer_live, new_all_ends, port_on, trusting_on, bound_on}
pub use Rattle.line_arrivals.specs.{bound_trust, far_hop_trust, link_trust, live_at_port, pair_port, code_behind}
pub use Rattle.line_arrivals.specs.{place_on_links, stream_named, AreLinks, IsBounded, IsLink, name_of, names_from_line}
pub use Rattle.line_arrivals.specs.{names_of, ops_by_line, line_ops, state_of, views_after, grants_in, writes_by}
pub use Rattle.line_arrivals.specs.{new_ends, port_in, PairEnds, InterfacesView, keyed_if, live_for_operation}
pub use Rattle.line_arrivals.specs.{operated_on, status_for_operation, stopped_if, KeeperView, LinkEnds, HostKeeper}
pub use Rattle.line_arrivals.specs.{unit_tlps, arrival_of, unit_in, waiting_reads_after, carried_next, IsThere}
pub use Rattle.line_arrivals.specs.{has_stream_at, link_statuses, number_on_links, sealing_draw_on, small_number}
pub use Rattle.line_arrivals.specs.Landing.{IsQuiet, Lands, arrival_on}
