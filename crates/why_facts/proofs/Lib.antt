pub mod Sites
pub mod Streams
pub mod Arrivals
pub mod Sends
pub mod Operations
pub mod Asked
pub mod Beside
pub mod Stand
