pub mod Sending
pub mod Stream
pub mod Slots
