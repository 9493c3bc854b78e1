pub mod Fronts
pub mod Locks
pub mod Runs
pub mod Statements
-- what crates above cite
pub use Rattle.law_memory.specs.Origin.{CameFrom}
pub use Rattle.law_memory.specs.ReadLaws.{Carries, IsReadAnswered}
pub use Rattle.law_mmio.specs.Stored.{claimed_write, if_claims, if_stored, unit_stored_writes, stores, write_read}
pub use Rattle.law_memory.specs.Bindings.{IsBoundPacket}
