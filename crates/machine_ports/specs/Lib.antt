pub mod Stream
pub mod Touches
pub mod Replies
pub mod Forwards
pub mod Machine
pub mod Stands
pub mod Through
pub use Rattle.machine_ports.specs.Machine.{LinkState, LinkPacket, step_of, first_state, find, with_stream_state}
pub use Rattle.machine_ports.specs.Machine.{find_op, put_op}
pub use Rattle.machine_ports.specs.Stands.{StreamsAndPacketsStand, PortsStandFor, StepStands, FirstStands, PacketsStand}
pub use Rattle.machine_ports.specs.Stands.{stream_state_due, state_due_if_planned}
pub use Rattle.machine_ports.specs.Through.{ThroughStays}
pub use Rattle.spec_links.specs.{devices, sites}
pub use Rattle.spec_links.specs.Due.{due}
pub use Rattle.spec_links.specs.Guarded.{mmio_due}
pub use Rattle.spec_links.specs.History.{SealedList, has_live_in, has_live_out, place_in_sub_stream, posted_count}
pub use Rattle.spec_links.specs.History.{sealed_packets, total_in, units_since, waits}
pub use Rattle.spec_links.specs.Hops.{HopTlp, leaving_end}
pub use Rattle.spec_links.specs.KeyFacts.{KeyFacts, is_quiet, operates}
pub use Rattle.spec_links.specs.Packets.{arrival_at}
pub use Rattle.spec_links.specs.Plan.{SubStream, is_same_port, key_of, key_plan, lane_in, lane_out, with_id}
pub use Rattle.spec_links.specs.Ports.{may_send, outgoing_at}
pub use Rattle.spec_links.specs.Units.{open_unit}
unfoldable pub use Rattle.spec_links.specs.Due.{t_sealed}
unfoldable pub use Rattle.spec_links.specs.Ports.{sealing_end}
unfoldable pub use Rattle.spec_links.specs.Plan.{stream_plan, streams_by_line}
unfoldable pub use Rattle.spec_links.specs.History.{port_keys, posted_since_last, sub_stream_packets}
