pub mod Scripts
mod PacketBytes
pub mod Events
pub mod Plans
pub mod Generating
pub mod Loads
mod Migrating
pub mod Judges
-- what proofs above cite
pub use Rattle.file_runs.proofs.Findings.{judged_tells}
pub use Rattle.script_runs.proofs.Migrating.{failed_migration}
