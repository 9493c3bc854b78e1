pub mod Octets
pub mod Shapes
pub mod Messages
pub mod Requests
pub mod Replies
pub mod RangeBytes
pub mod Reports
