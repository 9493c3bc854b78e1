pub mod ByNumber
pub mod Oldest
pub mod Responses
pub mod Order
pub mod Requesters
pub mod Taken
pub mod Forwarded
pub mod Followed
