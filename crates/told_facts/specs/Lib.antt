pub mod Terms
pub mod Words
pub mod Exchanges
pub mod Asked
pub mod Told
-- what clauses and crates above cite
pub use Rattle.told_facts.specs.Words.{fact_word}
