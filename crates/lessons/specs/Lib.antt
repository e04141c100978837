pub mod Lessons
pub mod Story
