pub mod Objects
pub mod Calls
pub mod Replies
-- what clauses and crates above cite
pub use Rattle.key_messages.specs.declared.object.KmView.{KmView}
pub use Rattle.key_messages.specs.declared.object.KmFault.{KmFault}
pub use Rattle.key_messages.specs.declared.port.ProgramFault.{ProgramFault}
pub use Rattle.key_messages.specs.declared.status.KeyStatus.{KeyStatus}
pub use Rattle.key_messages.specs.Objects.{object_spelling, is_reserved, FitsObject, SpellsObject, size_of, fault_of}
pub use Rattle.key_messages.specs.Objects.{object_of, object_or_fault, object_reading}
pub use Rattle.key_messages.specs.Calls.{place_at, PlaceCall, place_call, SlotsShown, shown_pair, program_answer_at}
pub use Rattle.key_messages.specs.Calls.{shown_program_answer, go_answer_of_slots, go_answer, is_there, stop_answer}
pub use Rattle.key_messages.specs.Calls.{is_taken_by_slots, is_taken, slots_by, is_same_place, slots_after_call}
pub use Rattle.key_messages.specs.Calls.{SlotsAfter}
pub use Rattle.key_messages.specs.Replies.{set_of, direction_of, sub_of, selected_place, object_call, reading_call}
pub use Rattle.key_messages.specs.Replies.{call_of, HasMoved, HasKept, is_done, status_code, key_status_of, description}
pub use Rattle.key_messages.specs.Replies.{object_reply, fault_reply, reading_reply, reply_object, object_bytes}
pub use Rattle.key_messages.specs.Replies.{reply_bytes, HoldsKey, IsAcknowledged}
