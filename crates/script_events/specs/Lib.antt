pub mod Terms
pub mod Words
pub mod Parts
pub mod Interfaces
pub mod Accesses
pub mod Paired
pub mod Allowed
pub mod Parse
pub mod Spells
pub mod Faults
-- what clauses and crates above cite
pub use Rattle.ide_types.specs.Names.{Text, is_printable}
pub use Rattle.script_events.specs.Terms.{ScriptEvent, Event, InterfaceEvent, AccessEvent, PeerEvent, HopEvent, Loss}
pub use Rattle.script_events.specs.Terms.{Lost, LineFault, LineError}
pub use Rattle.script_events.specs.Words.{line_limit, words_in, line_fault_word, fault_line_of}
unfoldable pub use Rattle.script_events.specs.Words.{number_of_word, mask_in, bytes_in, port_of_word, any_port_of_word}
unfoldable pub use Rattle.script_events.specs.Interfaces.{register_in}
pub use Rattle.script_events.specs.Interfaces.{InterfaceSpelledBy, IsAllowedInterface}
pub use Rattle.script_events.specs.Accesses.{AccessSpelledBy, IsAllowedAccess}
pub use Rattle.script_events.specs.Paired.{PeerSendSpelledBy, PeerSpelledBy, HopSpelledBy}
pub use Rattle.script_events.specs.Parse.{is_comment, line_meaning, begins_bytes, IsLineAnswer, line_answer}
pub use Rattle.script_events.specs.Spells.{SpelledBy, SpellsEvent, MeaningIsSpelling, IsSkipped, NothingIsSkipped}
pub use Rattle.script_events.specs.Spells.{IsAllowed, IsAllowedInScript, SpelledAreAllowed}
pub use Rattle.script_events.specs.Faults.{FirstFault, FaultsAreFirst}
