pub mod Cuts
pub mod Gains
pub mod Fronts
pub mod FileNames
pub mod Runs
pub mod Parts
pub mod Cuttings
pub mod WholeFiles
pub mod FileFronts
pub mod Joins
pub mod Shows
mod Words
pub mod Differences
pub mod Findings
pub mod FileRuns
mod JudgedFiles
