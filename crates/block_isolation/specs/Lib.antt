pub mod Shown
pub mod Isolated
pub mod Opened
