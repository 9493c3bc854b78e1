pub mod Why
pub mod Cover
pub mod Explaining
pub mod LineLaws
pub mod Tasks
