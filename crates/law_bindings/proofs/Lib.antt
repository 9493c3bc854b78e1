pub mod OnlyDraw
pub mod Calls
pub mod Asks
pub mod Counted
pub mod Tells
pub mod Stops
pub mod Lasts
pub mod Floors
pub mod Stored
pub mod Sealed
pub mod OverPeers
mod StreamAlone
pub mod Stale
pub mod AllLaws
