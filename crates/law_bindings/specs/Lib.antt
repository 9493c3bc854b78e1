pub mod Asked
pub mod Keys
pub mod OneLock
pub mod OverPeers
pub mod StreamAlone
pub mod Statements
