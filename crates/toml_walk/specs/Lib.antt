pub mod Fault
pub mod Bounds
pub mod Shown
pub mod Paths
pub mod Steps
pub mod Walk
pub mod Values
