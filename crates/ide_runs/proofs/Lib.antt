pub mod Whys
pub mod Covers
