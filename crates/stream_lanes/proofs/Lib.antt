pub mod Sealing
pub mod Taking
pub mod Sent
pub mod Arriving
