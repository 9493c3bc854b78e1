pub mod Sends
pub mod LocalLaws
-- what clauses and crates above cite
pub use Rattle.law_hops.specs.LocalLaws.{LocalHopLawHolds}
pub use Rattle.law_hops.specs.Sends.{ForwardSends}
