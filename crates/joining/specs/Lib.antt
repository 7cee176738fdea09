pub mod Cooks
pub mod Join
pub mod Joined
pub mod Kept
