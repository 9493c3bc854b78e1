pub mod Follows
pub mod Landing
pub mod Interfaces
-- what clauses and crates above cite
pub use Rattle.join_arrivals.specs.Accesses.{AccessesStay, AccessesTurn, AreLeftBy, Brings, carried_on_link, floors_at}
pub use Rattle.join_arrivals.specs.Accesses.{mmio_at, nothing_happens, policy_in, reads_at, same_carried, same_floors}
pub use Rattle.join_arrivals.specs.Accesses.{same_reads, sizes_at, statuses_of_ends}
pub use Rattle.join_arrivals.specs.Events.{operation_event}
pub use Rattle.join_arrivals.specs.{carried_next}
pub use Rattle.join_interfaces.specs.Verdicts.{NoBadInterfaceReply, outcome_verdict, op_event, report_of}
pub use Rattle.all_ends.specs.{PairEnds, arrival_of, secure_or_live, unit_in, unit_tlps, waiting_reads_after}
pub use Rattle.all_ends.specs.{cut_packets, new_ends, port_in, InterfacesView, keyed_if, live_for_operation}
pub use Rattle.all_ends.specs.{operated_on, status_for_operation, stopped_if, manager_told, IsAtBothEnds, IsOperated}
pub use Rattle.all_ends.specs.{IsWalked, KeeperView, Operates, ends_found, arrival_verdict, end_sent_verdict, grants_in}
pub use Rattle.all_ends.specs.{packet_effect, packet_write, unit_writes, writes_by, LinkEnds, HostKeeper}
pub use Rattle.all_ends.specs.AllEnds.{ArrivesAtEnd, AsksAtLink, CallsAtLink, IsThere, OperatesAt, OperatesByPlace}
pub use Rattle.all_ends.specs.AllEnds.{OperatesOnLink, OperatesOnPair, ResetsAt, SendsAtEnd, both_of, drawn_on_line}
pub use Rattle.all_ends.specs.AllEnds.{drawn_at_place, statuses_of, told_by_line, told_by_place, has_stream_at}
pub use Rattle.all_ends.specs.AllEnds.{PortStep, SealsAtEnd, SendsByPlace, link_statuses, sealing_draw_on, step_by_place}
pub use Rattle.all_ends.specs.AllEnds.{step_on_stream}
pub use Rattle.all_ends.specs.Ends.{EndsView, all_cleared, bound_on, bound_trust, changed_at, cleared_ends, cleared_on}
pub use Rattle.all_ends.specs.Ends.{cleared_place, far_hop_trust, line_place, link_trust, live_at_port, live_of}
pub use Rattle.all_ends.specs.Ends.{peer_live, new_all_ends, pair_port, port_at_place, port_on, reset_all}
pub use Rattle.all_ends.specs.Ends.{settled_first_links, settled_ends, settled_link, settled_peer, trusting_on}
pub use Rattle.all_ends.specs.Ends.{unlocked_ends, unlocked_link, with_port_on}
pub use Rattle.all_ends.specs.Places.{code_behind, number_on_links, place_on_links, small_number, stream_named}
pub use Rattle.all_ends.specs.States.{AreLinks, IsBounded, IsLink, in_sixteen, name_of, names_from_line, names_of}
pub use Rattle.all_ends.specs.States.{ops_by_line, line_ops, pair_ports, ports_in, rows_of, state_of, views_after}
pub use Rattle.all_ends.specs.declared.places.LinePlace.{LinePlace}
pub use Rattle.all_ends.specs.declared.places.LinePlace.TheVariants.{Link, Near, Pair}
