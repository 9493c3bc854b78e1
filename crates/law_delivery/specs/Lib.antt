pub mod Statements
pub mod PostedCounts
pub mod NoForgeryUnder
pub mod LocalLaws
pub use Rattle.law_delivery.specs.PostedCounts.{CountLaw, CountLawHolds}
