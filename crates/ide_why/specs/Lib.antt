pub mod Faces
pub mod Reading
pub mod Facts
pub mod Places
-- what clauses and crates above cite
pub use Rattle.world.specs.{WorldView, WorldStandsFor, IsNewWorld, IsStep}
pub use Rattle.why_facts.specs.{facts_due}
