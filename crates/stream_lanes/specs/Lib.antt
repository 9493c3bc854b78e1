pub mod Lanes
pub mod Sends
pub mod Arrivals
-- what clauses and crates above cite
pub use Rattle.stream_lanes.specs.Lanes.{SendEnds, new_send_ends, send_end_at, sealing_lanes, any_out, all_out}
pub use Rattle.stream_lanes.specs.Lanes.{settled_senders, SealedAtMost, called_ends}
pub use Rattle.stream_lanes.specs.Sends.{refusal_verdict, numbered_from, joined_packets, packet_lengths, IsSealed}
pub use Rattle.stream_lanes.specs.Sends.{IsSealedOrRefused}
pub use Rattle.stream_lanes.specs.Arrivals.{ReceiveEnds, no_receivers, new_receive_ends, receiving_state, lanes_outcome}
pub use Rattle.stream_lanes.specs.Arrivals.{opened_if_accepted, receive_ends_after, is_fail, any_into, all_into}
pub use Rattle.stream_lanes.specs.Arrivals.{rested_into, AcceptedAtMost, called_receivers}
