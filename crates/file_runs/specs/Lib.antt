pub mod Pieces
pub mod Gain
pub mod Front
pub mod Outcome
pub mod Lines
pub mod Gathering
pub mod Reading
pub mod Showing
pub mod Differing
pub mod Judging
pub mod FileRuns
-- what clauses and crates above cite
pub use Rattle.ide_types.specs.Names.{Text}
pub use Rattle.script_events.specs.Parse.{IsLineAnswer}
pub use Rattle.file_runs.specs.Reading.{packet_meaning}
pub use Rattle.file_runs.specs.Showing.{line_shown}
