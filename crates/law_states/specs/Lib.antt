pub mod States
pub mod Nonces
pub mod Views
pub mod Errors
pub mod Statements
