pub mod Seen
pub mod Written
pub mod Putting
pub mod Turns
pub mod Admitted
pub mod Places
pub mod Shown
pub mod Spelled
mod Full
