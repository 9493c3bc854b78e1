pub mod Streams
pub mod Accesses
pub mod Units
pub mod Whole
pub mod Faces
