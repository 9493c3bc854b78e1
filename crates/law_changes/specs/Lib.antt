pub mod Inert
pub mod Resets
pub mod Switches
pub mod StreamsApart
pub mod Statements
