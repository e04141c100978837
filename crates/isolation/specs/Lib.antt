pub mod Isolated
pub mod Opened
