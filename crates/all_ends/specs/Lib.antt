pub mod Requester
pub mod Ends
pub mod Places
pub mod AllEnds
pub mod States
pub mod Cuts
pub mod Packets
-- what clauses and crates above cite
pub use Rattle.link_ends.specs.{IsJoined, KeysKept, OperationsJoin, host_of, pool_by, verdict_due, StreamEnds}
pub use Rattle.link_ends.specs.{WalkedEnds, begun_ends, event_walk, walk_on, draws_by, touched_by}
pub use Rattle.link_ends.specs.Ends.{port_in, with_port, new_ends}
pub use Rattle.link_ends.specs.Hosts.{InterfacesView, operated_on, keyed_if, live_for_operation, status_for_operation}
pub use Rattle.link_ends.specs.Hosts.{stopped_if, manager_told}
pub use Rattle.link_ends.specs.Keepers.{IsAtBothEnds, IsOperated, IsWalked, KeeperView, Operates, ends_found, HasStream}
pub use Rattle.link_ends.specs.declared.ends.LinkEnds.{LinkEnds}
pub use Rattle.link_ends.specs.declared.pair.PairEnds.{PairEnds}
pub use Rattle.all_ends.specs.Ends.{EndsView, port_on, with_port_on, peer_live, trusting_on, new_all_ends}
pub use Rattle.arrival_verdicts.specs.{waiting_reads_after, unit_in, arrival_verdict, grants_in, of_unit, switched_each}
pub use Rattle.arrival_verdicts.specs.{unit_waits, writes_by, unit_tlps, live_draw_at_end, arrival_of}
pub use Rattle.arrival_verdicts.specs.Verdicts.{effects_from, end_sent_verdict, packet_write, unit_writes}
pub use Rattle.arrival_verdicts.specs.Verdicts.{packet_effect}
pub use Rattle.link_ends.specs.DeviceEnds.{says_secure, secure_or_live}
pub use Rattle.link_ends.specs.PairKeepers.{IsAtBoth, IsPairOperated, IsPairWalked, PairOperates, pair_found}
pub use Rattle.link_ends.specs.declared.host.HostKeeper.{HostKeeper}
pub use Rattle.all_ends.specs.Cuts.{cut_packets}
pub use Rattle.machine_ports.specs.Machine.{BesidePorts, LinkPacket, LinkState, Stepped, changed_by_id}
pub use Rattle.machine_ports.specs.Machine.{found_by_id, kept_packet, port_at, port_place, reset_state, machine_status}
pub use Rattle.machine_ports.specs.Machine.{stepped_answer}
pub use Rattle.machine_ports.specs.Stands.{PortsStandFor, op_at, stream_state_due}
unfoldable pub use Rattle.machine_ports.specs.Machine.{find, find_op, with_stream_state}
