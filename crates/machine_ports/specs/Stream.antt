-- A port's part of one stream, as the rules of streams have it.
pub use Rattle.spec_stream.specs.Stream.{Three, at_sub, set_sub, each_sub, LiveKey, LaneSlot, LaneSlots, TxSub, RxSub}
pub use Rattle.spec_stream.specs.Stream.{StreamState, slot_in_set, with_slot, live_in, live_sender, lane_of, lanes_of}
pub use Rattle.spec_stream.specs.Stream.{untagged_under, tagged_under, packet_under, gone_on, counted_unit, ended_slots}
pub use Rattle.spec_stream.specs.Stream.{sealed_slots, sealed_sub, sealed_one, sealed_all, PacketOutcome, holds_any}
pub use Rattle.spec_stream.specs.Stream.{posted_sum, is_allowed, is_tagged, outcome_of_checks, stream_outcome_by_keys}
pub use Rattle.spec_stream.specs.Stream.{stream_outcome, slot_without_packets, dropped_held, slot_unless_older}
pub use Rattle.spec_stream.specs.Stream.{accepted_slots, accepted_sub, held_sub, state_after, Empty, Programmed, Armed}
pub use Rattle.spec_stream.specs.Stream.{Live, Insecure, NotKeyed, Failed, Held, Accepted}
pub use Rattle.spec_stream.specs.Slots.{both_slots, begun_slot, slot_gone, woken_slot, is_live_slot, any_live, slots_at}
pub use Rattle.spec_stream.specs.Slots.{rested_stream, no_slots, no_stream, has_all_live, has_some_live}
pub use Rattle.spec_stream.specs.Slots.{stream_status, sealing_draw, receiving_draw}
