pub mod Loading
pub mod Topologies
pub mod Migrating
pub mod Script
pub mod Works
pub mod Texts
pub mod Packets
pub mod LineLaws
pub mod Generated
pub mod SoFar
pub mod Reads
pub mod Judge
pub mod Tasks
-- what clauses above cite
pub use Rattle.file_runs.specs.Judging.{Tells, judgement_due, verdicts_limit}
