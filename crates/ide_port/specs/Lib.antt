pub mod Ends
pub mod Units
pub mod Sends
pub mod Arrivals
pub mod Calls
pub mod Kept
pub mod Facts
pub mod StreamEnds
pub mod StreamSends
pub mod Both
-- what clauses and crates above cite
pub use Rattle.ide_port.specs.Ends.{PortEnd, Found, found_stream, changed_states, stream_end_at, new_port, reset_port}
pub use Rattle.ide_port.specs.Units.{PortUnitsAtMost, UnitsGrow}
pub use Rattle.ide_port.specs.Sends.{Trusting, SendStep, send_step, sent_verdict, lengths_sent, IsSentAtPort}
pub use Rattle.ide_port.specs.Sends.{seal_step, IsSealedAtPort}
pub use Rattle.ide_port.specs.Arrivals.{TakeStep, take_step}
pub use Rattle.ide_port.specs.Calls.{slot_pair_at, unfinished_at, called_port, port_stream_status, live_in_port}
pub use Rattle.ide_port.specs.Calls.{sealing_draw_in, receiving_draw_in}
pub use Rattle.ide_port.specs.Facts.{found_facts, held_in_port, stream_facts_in}
pub use Rattle.stream_lanes.specs.{opened_if_accepted, refusal_verdict, numbered_from, joined_packets, packet_lengths}
pub use Rattle.ide_port.specs.StreamEnds.{StreamEnd, new_end, lanes_in, pair_in, called_end, end_outcome, end_taken}
pub use Rattle.ide_port.specs.StreamEnds.{reset_end}
pub use Rattle.ide_port.specs.StreamSends.{new_sending, numbered_answer, sent_descriptions, packets_sent, end_sent}
pub use Rattle.ide_port.specs.StreamSends.{IsSent}
