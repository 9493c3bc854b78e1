pub mod KeySets
pub mod Places
pub mod Limits
pub mod EndsFound
pub mod Fronts
pub mod Cells
pub mod Walks
