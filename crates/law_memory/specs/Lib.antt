pub mod Origin
pub mod ReadLaws
pub mod Bindings
pub mod Statements
pub mod LocalLaws
