pub mod Oldest
pub mod DeviceReads
pub mod Exact
pub mod Cases
pub mod Exposure
pub mod Origins
pub mod Statements
