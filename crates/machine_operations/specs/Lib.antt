pub mod Operations
pub mod Cases
pub mod Points
pub use Rattle.machine_ports.specs.Forwards.{forward_of}
pub use Rattle.machine_ports.specs.Machine.{BesidePorts, LinkState, altered_to, changed_by_id, cut_short, draws_after}
pub use Rattle.machine_ports.specs.Machine.{find_op, first_state, found_by_id, is_last_in, is_live_at, packet_numbered}
pub use Rattle.machine_ports.specs.Machine.{whole_arrival, place_at_end, port_at, ports_of, receiving_draw_at}
pub use Rattle.machine_ports.specs.Machine.{refuses_at, slots_refuse, machine_status, status_if_planned, step_of}
pub use Rattle.machine_ports.specs.Machine.{touches_at, verdict_of_taken}
pub use Rattle.machine_ports.specs.Replies.{ReadCompletion, completion_first, site_completion, port_completion}
pub use Rattle.machine_ports.specs.Stands.{StreamsAndPacketsStand, PortsStandFor, beside_at, receiving_key, rx_slot}
pub use Rattle.machine_ports.specs.Stands.{rx_slots, state_due_if_planned, tx_slots}
pub use Rattle.machine_ports.specs.Stream.{Accepted, Failed, Held, Insecure, NotKeyed, StreamState, PacketOutcome}
pub use Rattle.machine_ports.specs.Stream.{receiving_draw, stream_outcome}
pub use Rattle.machine_ports.specs.Touches.{slots_touched, taken_touches, touched_stream}
unfoldable pub use Rattle.machine_ports.specs.Stands.{stream_state_due}
unfoldable pub use Rattle.machine_ports.specs.Machine.{find}
