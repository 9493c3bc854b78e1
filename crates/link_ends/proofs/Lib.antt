pub mod Terms
pub mod Names
pub mod Streams
pub mod Ports
pub mod Calls
mod Exchanges
mod Carried
mod Walks
mod Operates
mod PairCarried
mod PairWalks
mod PairOperates
mod Doors
mod InterfaceCarried
mod InterfaceRefused
mod InterfaceWalks
pub mod Turned
-- what proofs above cite
pub use Rattle.join_keys.proofs.Works.{is_asked}
