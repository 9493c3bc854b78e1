pub mod Answers
pub mod Gathered
pub mod Masked
pub mod Seen
pub mod Senders
pub mod Receivers
pub mod Calls
pub mod Facts
-- what clauses and crates above cite
pub use Rattle.sub_stream.specs.declared.answer.MeasuredPacket.{MeasuredPacket}
pub use Rattle.sub_stream.specs.declared.answer.TxRefusal.{TxRefusal}
pub use Rattle.sub_stream.specs.declared.sender.ReadyKey.{ReadyKey}
pub use Rattle.sub_stream.specs.declared.answer.Taken.{Taken}
pub use Rattle.sub_stream.specs.Answers.{numbered_packet, answer_taken}
pub use Rattle.sub_stream.specs.Gathered.{lent_totals, opened_from_byte, opened_packets}
pub use Rattle.sub_stream.specs.Seen.{key_slot, slot_pair}
pub use Rattle.spec_stream.specs.Slots.{no_slots}
pub use Rattle.sub_stream.specs.Senders.{Sender, new_sender, ready_key, ready_of, key_in_use, open_packets}
pub use Rattle.sub_stream.specs.Senders.{is_unfinished, Content, tlp_content, sync_content, described_content}
pub use Rattle.sub_stream.specs.Senders.{with_length, unit_ahead, sender_ahead, tagged_packet, ends, Sealing}
pub use Rattle.sub_stream.specs.Senders.{sealing_by_key, sealing_of, programmed_sender, gone_slots, gone_sender}
pub use Rattle.sub_stream.specs.Senders.{stopped_slots, stopped_sender}
pub use Rattle.sub_stream.specs.Receivers.{Receiver, new_receiver, key_for, receiver_ahead, is_tagged_behind, fits_unit}
pub use Rattle.sub_stream.specs.Receivers.{judged_packet, receiver_outcome_by_keys, receiver_outcome, dropped_slots}
pub use Rattle.sub_stream.specs.Receivers.{dropped_receiver, ahead_held, opened_unit, after_answer, receiver_after}
pub use Rattle.sub_stream.specs.Receivers.{slots_ahead, with_slots, programmed_receiver, gone_receiver}
pub use Rattle.sub_stream.specs.Receivers.{stopped_receiver}
