pub mod Alike
pub mod Lockstep
pub mod Isolation
pub mod OnExample
pub mod OnStory
