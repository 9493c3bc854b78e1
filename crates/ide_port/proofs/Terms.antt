-- Words that several proofs take.
pub use Rattle.key_messages.specs.declared.place.Place.{Place}
pub use Rattle.key_messages.specs.{PlaceCall, SlotsAfter, place_call, shown_pair, slots_by}
pub use Rattle.key_messages.specs.Calls.{go_answer_of_slots, is_there, program_answer_at}
pub use Rattle.ide_types.specs.declared.stream.StreamPlan.{StreamPlan}
pub use Rattle.ide_port.specs.Calls.{called_port, called_states, has_open_unit, is_place, slot_pair_at, stream_at_place}
pub use Rattle.ide_port.specs.Calls.{unfinished_at}
pub use Rattle.ide_port.specs.Ends.{Found, PortEnd, changed_states, found_stream, reset_port}
pub use Rattle.ide_port.specs.Kept.{AreStreamsOfPlans, IsKept, IsStreamOfPlan, NoneWaits, arrival_said, delivered_at}
pub use Rattle.ide_port.specs.Kept.{is_waiting, place_and_sub, packets_lent, new_stream_ends, stream_of}
pub use Rattle.ide_port.specs.declared.port.Port.TheInside.{Inside}
pub use Rattle.ide_prefix.specs.Packet.{Packet, packet_bytes, sync_head}
pub use Rattle.ide_prefix.specs.{sub_from}
pub use Rattle.ide_port.specs.StreamEnds.{StreamEnd, called_end, end_taken, lanes_in, pair_in, reset_end, end_outcome}
pub use Rattle.ide_port.specs.StreamSends.{numbered_answer, packets_sent, new_sending, lengths_said, sending_refusal}
pub use Rattle.ide_port.specs.StreamSends.{packets_and_senders, unless_verdict}
pub use Rattle.stream_lanes.specs.{joined_packets}
pub use Rattle.ide_types.specs.declared.port.Side.{Side}
pub use Rattle.ide_types.specs.declared.sub.SubKind.{SubKind}
pub use Rattle.key_slots.specs.{Go, Stop, KeyCall, Program, SlotPair, is_one, live_set, program_answer}
pub use Rattle.event_verdicts.specs.declared.verdict.Verdict.{Verdict}
pub use Rattle.std.proofs.Common.{Err, List, None, Option, Result, Some, [], ap, arith, drop, false, get_or, length}
pub use Rattle.std.proofs.Common.{length-append, map, refl, subst, suc, sym, take, true, zero, ℕ, ◌&&◌, ◌++◌, ◌+◌, ◌<◌}
pub use Rattle.std.proofs.Common.{◌==◌, ◌||◌, ◌∙◌, ◌∷◌, ◌≡◌, ◌≢◌, ◌≤◌}
pub use Rattle.std.proofs.lemmas.Bool.Decides.{nat_tests}
pub use Rattle.std.specs.Option.{option_and_then, option_map}
pub use Rattle.std.specs.Prelude.{if◌then◌else◌, nat_lt, slice_get, slice_set}
pub use Rattle.sub_stream.specs.Calls.{stream_after_call, no_stream, pair_at, sends_in, slots_at, slots_called_into}
pub use Rattle.sub_stream.specs.Calls.{slots_called_out, stream_status}
pub use Rattle.stream_lanes.specs.declared.refusal.SendRefusal.{SendRefusal}
pub use Rattle.spec_stream.specs.Sending.{Lanes, Sending, described_seal, ends_unit, total_ahead, needs_sync}
pub use Rattle.spec_stream.specs.Sending.{sealed_with_syncs, sets_trusted, sync_before}
pub use Rattle.spec_stream.specs.Slots.{rested_stream}
pub use Rattle.spec_stream.specs.Stream.{Accepted, Failed, Held, Insecure, LiveKey, NotKeyed, RxSub, LaneSlots}
pub use Rattle.spec_stream.specs.Stream.{StreamState, Three, TxSub, accepted_sub, at_sub, dropped_held, held_sub}
pub use Rattle.spec_stream.specs.Stream.{live_sender, packet_under, sealed_all, sealed_one, set_sub, state_after}
pub use Rattle.spec_stream.specs.Stream.{tagged_under, untagged_under}
pub use Rattle.sub_stream.specs.{answer_taken, slot_pair}
pub use Rattle.tlp_layout.specs.Class.{class_of}
pub use Rattle.tlp_layout.specs.Head.{head_bytes, head_length}
pub use Rattle.tlp_layout.specs.Tlp.{body, header, viewed_tlp}
pub use Rattle.tlp_layout.specs.declared.tlp.Tlp.{Tlp}
