pub mod Reader
pub mod Opened
