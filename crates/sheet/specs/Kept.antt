pub mod Guards
pub mod Held
pub mod Indexed
pub mod Kinds
pub mod Scanned
pub mod Sent
pub mod Written
