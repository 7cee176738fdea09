pub mod Drawn
pub mod Examples
pub mod Graph
pub mod Kept
pub mod Layout
pub mod Picture
pub mod Reading
pub mod Text
