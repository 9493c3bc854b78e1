pub mod Shown
pub mod Claimed
pub mod Guarding
pub mod Paged
pub mod Setting
