pub mod Decimal
pub mod Kept
pub mod Meaning
