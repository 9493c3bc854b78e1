pub mod ByOrder
pub mod Honest
pub mod Statements
