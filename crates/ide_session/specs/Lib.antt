pub mod Answers
pub mod Holding
pub mod Sessions
pub mod Runs
