pub mod Coming
pub mod Lent
