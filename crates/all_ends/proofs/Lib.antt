pub mod Numbers
pub mod Terms
pub mod ByPlace
pub mod Finds
pub mod Kept
pub mod Rows
pub mod Lent
pub mod Comes
mod Endings
mod Pushed
-- what proofs above cite
pub use Rattle.link_ends.proofs.{is_asked}
pub use Rattle.link_ends.proofs.Names.{IsNamed, named_stands, set_named}
pub use Rattle.link_ends.proofs.Streams.{found_id, machine_found}
pub use Rattle.arrival_verdicts.proofs.Waits.{own_tlps, waits_open}
pub use Rattle.arrival_verdicts.proofs.Writes.{switch_admits_none, unit_agrees, writes_agree}
pub use Rattle.ide_types.proofs.Places.{set_read}
