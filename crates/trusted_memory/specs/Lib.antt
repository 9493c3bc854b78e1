pub mod Spans
pub mod Writes
pub mod Regions
pub mod Causes
pub mod Admitted
pub mod Memory
pub mod Pages
pub mod Requests
pub mod Completions
pub mod Waiting
pub mod Cases
-- what clauses and crates above cite
pub use Rattle.trusted_memory.specs.declared.span.Span.{Span}
pub use Rattle.trusted_memory.specs.declared.write.MemWriteView.{MemWriteView}
pub use Rattle.trusted_memory.specs.declared.grant.Grant.{Grant}
pub use Rattle.trusted_memory.specs.Spans.{span_byte_count, is_enable_set, is_enabled, reaches, enables, crosses}
pub use Rattle.trusted_memory.specs.Spans.{double_words, span_of, write_span}
pub use Rattle.trusted_memory.specs.Writes.{Write, payload_byte, byte_written, last_enabling, written_in_turn}
pub use Rattle.trusted_memory.specs.Writes.{newest_first, memory_write, write_of_tlp, write_of}
unfoldable pub use Rattle.trusted_memory.specs.Writes.{byte_last_written}
pub use Rattle.trusted_memory.specs.Regions.{is_inside, in_region, holds_all, in_one_region}
pub use Rattle.trusted_memory.specs.Causes.{grant_cause, place_cause, block_cause, block_effect, is_applied}
pub use Rattle.trusted_memory.specs.Causes.{write_effect}
pub use Rattle.trusted_memory.specs.Admitted.{is_on_bound, is_placed, if_placed, admitted_write}
pub use Rattle.trusted_memory.specs.Memory.{MemoryContents, TrustedMemory, new_contents, new_memory, byte_at}
pub use Rattle.trusted_memory.specs.Memory.{bytes_from, has_page, takes_page, pages_taken, HasPagesOf}
pub use Rattle.trusted_memory.specs.Memory.{byte_after_effect, IsLeftBy, Leads}
pub use Rattle.trusted_memory.specs.Pages.{IsBlank}
pub use Rattle.trusted_memory.specs.declared.read.MemReadView.{MemReadView}
pub use Rattle.trusted_memory.specs.declared.queue.WaitingRead.{WaitingRead}
pub use Rattle.trusted_memory.specs.declared.queue.ReadTarget.{ReadTarget}
pub use Rattle.trusted_memory.specs.declared.queue.ReadArrival.{ReadArrival}
pub use Rattle.trusted_memory.specs.Requests.{memory_read, FitsRead}
pub use Rattle.trusted_memory.specs.Completions.{enabled_places, first_and_last, first_or, extent, byte_count}
pub use Rattle.trusted_memory.specs.Completions.{lower_address, read_bytes, completion_head, completion}
pub use Rattle.trusted_memory.specs.Completions.{host_completer}
unfoldable pub use Rattle.trusted_memory.specs.Completions.{completion_bytes}
pub use Rattle.trusted_memory.specs.Waiting.{most_waiting, read_cause, read_effect, effect_by_read, request_effect}
pub use Rattle.trusted_memory.specs.Waiting.{waiting_after}
pub use Rattle.trusted_memory.specs.Cases.{AnswerCases, TableCases}
