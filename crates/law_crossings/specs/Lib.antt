pub mod HopTrust
pub mod HopOrder
pub mod Statements
