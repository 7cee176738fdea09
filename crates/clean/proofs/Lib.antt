pub mod Cleaned
pub mod Sheets
pub mod Writing
