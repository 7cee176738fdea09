pub mod Clean
pub mod Cleaned
pub mod Kept
