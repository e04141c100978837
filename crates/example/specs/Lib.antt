pub mod Example
pub mod Story
