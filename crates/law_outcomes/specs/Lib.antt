pub mod Recovery
pub mod Operations
pub mod Shown
pub mod Blocks
pub mod Failures
pub mod Statements
