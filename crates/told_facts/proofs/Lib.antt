mod Exchanges
mod Portions
pub mod Planned
