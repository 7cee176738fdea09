pub mod Digits
pub mod Exact
pub mod Putting
pub mod ReadBack
pub mod Short
pub mod Standing
