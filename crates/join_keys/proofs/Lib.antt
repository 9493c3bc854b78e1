pub mod CallTerms
pub mod Settling
pub mod Slots
pub mod Streams
pub mod Touches
pub mod Carried
pub mod Exchanges
pub mod HostCalls
pub mod Touched
pub mod Terms
pub mod Lanes
pub mod Replies
pub mod Drawn
pub mod Standing
pub mod Walking
pub mod Resting
pub mod Works
pub mod Kept
pub mod Joins
pub mod PairTurns
mod PairWalking
mod PairResting
mod PairKept
mod PairJoins
