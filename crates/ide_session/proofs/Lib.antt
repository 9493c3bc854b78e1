pub mod Values
pub mod Holding
mod SessionRuns
