pub mod Numbers
pub mod Stored
pub mod Mmio
pub mod Statements
