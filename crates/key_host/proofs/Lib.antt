pub mod Begins
pub mod Walks
pub mod Dues
pub mod PairsFit
mod KeptKeys
