pub mod Rounds
pub mod Routes
pub mod Search
