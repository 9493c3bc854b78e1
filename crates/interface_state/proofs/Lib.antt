pub mod Bound
pub mod BarRanges
pub mod KeptReports
pub mod ListedParts
pub mod SharedBytes
pub mod Entered
pub mod Widths
