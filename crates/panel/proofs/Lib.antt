pub mod Alike
pub mod Apart
pub mod Replies
