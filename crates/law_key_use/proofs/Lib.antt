pub mod InUse
pub mod Stops
pub mod Refreshes
pub mod OneKey
pub mod Limits
pub mod Forgeries
