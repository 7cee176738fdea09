pub mod Matched
pub mod Rows
pub mod Shown
pub mod Turns
