pub mod Steps
pub mod Judging
pub mod Views
pub mod Managers
pub mod Facts
