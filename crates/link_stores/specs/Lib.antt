pub mod Accesses
pub mod Lending
-- what clauses and crates above cite
pub use Rattle.link_stores.specs.Accesses.{new_link_accesses, new_accesses, device_statuses, reads_after, without_tlps}
pub use Rattle.link_stores.specs.Accesses.{reads_on, other_reads, with_reads}
