pub mod Lists
pub mod Holds
pub mod Unknown
pub mod KeysBack
