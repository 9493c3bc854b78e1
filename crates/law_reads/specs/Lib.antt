pub mod Order
pub mod Waiting
-- what clauses and crates above cite
pub use Rattle.law_reads.specs.Order.{TakesFirst, FewWait, ReadsInOrder}
pub use Rattle.law_reads.specs.Waiting.{tlps_ended, waiting_next, WaitingFollows}
pub use Rattle.spec_links.specs.Hops.{clears_hop}
