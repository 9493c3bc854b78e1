pub mod Inert
pub mod ResetEnds
pub mod Resets
pub mod Switches
pub mod StreamsApart
