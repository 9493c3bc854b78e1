pub mod Numbers
pub mod Steps
pub mod Spelled
pub mod InterfaceMeanings
pub mod AccessMeanings
pub mod PairedMeanings
pub mod Meanings
pub mod Skips
pub mod Sizes
pub mod Readings
pub mod InterfaceFaults
pub mod AccessFaults
pub mod PairedFaults
pub mod FirstFaults
pub mod Sevens
pub mod Cuts
mod FirstWords
