pub mod Messages
pub mod Requests
pub mod Replies
pub mod Ranges
pub mod Reports
-- what clauses and crates above cite
pub use Rattle.tdisp_codec.specs.declared.fault.TdispFault.{TdispFault}
pub use Rattle.tdisp_codec.specs.declared.request.RequestView.{RequestView}
pub use Rattle.tdisp_codec.specs.declared.reply.ReplyView.{ReplyView}
pub use Rattle.tdisp_codec.specs.declared.report.ReportRange.{ReportRange}
pub use Rattle.tdisp_codec.specs.declared.report.ReportView.{ReportView}
pub use Rattle.tdisp_codec.specs.Messages.{IsIgnored, message_bytes, message_spelling, SpellsMessage, IsSpelled}
pub use Rattle.tdisp_codec.specs.Messages.{type_in, function_field, body_in, length_fault, message_fault, read_or}
pub use Rattle.tdisp_codec.specs.Messages.{message_fault_at_place, IsFirstFault, function_of}
pub use Rattle.tdisp_codec.specs.Requests.{request_type, request_function, request_body, request_spelling, FitsRequest}
pub use Rattle.tdisp_codec.specs.Requests.{SpellsRequest, is_request, request_size, typed_request, request_in}
pub use Rattle.tdisp_codec.specs.Requests.{request_reading}
pub use Rattle.tdisp_codec.specs.Replies.{Reply, reply_shown, reply_answer, reply_type, reply_function, reply_body}
pub use Rattle.tdisp_codec.specs.Replies.{reply_spelling, IsCountedReply, FitsReply, SpellsReply, is_reply, reply_size}
pub use Rattle.tdisp_codec.specs.Replies.{typed_reply, decoded_reply, reply_reading}
pub use Rattle.tdisp_codec.specs.Ranges.{range_bytes, FitsRange, range_from, ranges_in}
pub use Rattle.tdisp_codec.specs.Reports.{Report, report_shown, report_spelling, IsCountedReport, FitsReport}
pub use Rattle.tdisp_codec.specs.Reports.{SpellsReport, report_size, report_in, report_reading, report_fault_at}
unfoldable pub use Rattle.tdisp_codec.specs.Ranges.{first_ranges}
