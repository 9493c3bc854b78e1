pub mod Codes
pub mod Seen
pub mod Packets
pub mod Meaning
pub mod GeneratedRuns
pub mod Went
pub mod Headline
pub mod Laws
