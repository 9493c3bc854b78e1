pub mod SpentKeys
