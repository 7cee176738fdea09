pub mod Bits
pub mod Graph
pub mod Lists
pub mod Meaning
pub mod Reply
