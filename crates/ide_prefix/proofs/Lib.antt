pub mod Terms
pub mod Units
pub mod Grammar
pub mod Faults
pub mod Cuts
pub mod Parts
pub mod Written
pub mod Views
