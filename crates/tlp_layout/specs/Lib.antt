pub mod Terms
pub mod Numbers
pub mod Head
pub mod Causes
pub mod Class
pub mod Tlp
pub mod Faults
pub mod Reading
pub mod Inside
pub mod Choice
pub mod Outgoing
pub mod Ways
-- what clauses and crates above cite
pub use Rattle.ide_types.specs.Fronts.{Begins, IsFaultPlace}
pub use Rattle.tlp_layout.specs.Terms.{TlpFault, HeadView, Lead, Fields, Routing, CompletionStatus, TlpKind, Layout}
pub use Rattle.tlp_layout.specs.Terms.{TlpView}
pub use Rattle.tlp_layout.specs.Numbers.{bit, routing_bits, routing_from, status_bits, completion_status, FitsStatus}
pub use Rattle.tlp_layout.specs.Head.{head_bytes, head_length, FitsLead, FitsFields, FitsHead, SpellsHead, IsHead}
pub use Rattle.tlp_layout.specs.Causes.{is_wide, has_data, head_size, layout_of_byte, reserved_bits, is_allowed_byte}
pub use Rattle.tlp_layout.specs.Causes.{cause_at, fault_at}
pub use Rattle.tlp_layout.specs.Class.{layout_of, kind_of_layout, kind_of, kind_class, class_of, kind_of_byte}
pub use Rattle.tlp_layout.specs.Tlp.{header, body, body_size, with_payload, tlp_bytes, FitsTlp, SpellsTlp, IsTlp}
pub use Rattle.tlp_layout.specs.Tlp.{viewed_tlp, viewed_result}
pub use Rattle.tlp_layout.specs.Faults.{IsFault, IsHeadFault, place_in}
pub use Rattle.tlp_layout.specs.Reading.{head_of, head_read, tlp_read, may_follow, wants_head, wants_tlp, rest_size}
pub use Rattle.tlp_layout.specs.Reading.{whole_size}
unfoldable pub use Rattle.tlp_layout.specs.Reading.{read_of, read_head_of}
pub use Rattle.tlp_layout.specs.Choice.{chosen_stream}
unfoldable pub use Rattle.tlp_layout.specs.Choice.{choice_of}
