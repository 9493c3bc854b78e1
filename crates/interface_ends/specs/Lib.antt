pub mod Keepers
pub mod Exchanges
pub mod Operations
pub mod Reports
pub mod Replies
pub mod Laws
