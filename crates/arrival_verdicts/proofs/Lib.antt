mod Effects
mod Units
mod AtSwitches
pub mod Writes
pub mod Waits
