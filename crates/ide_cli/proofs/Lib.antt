mod PacketLines
pub mod Written
mod SoFar
mod Requests
mod GeneratedRuns
mod Judging
mod Telling
mod Covering
