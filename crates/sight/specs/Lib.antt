pub mod Shown
pub mod Numbered
pub mod Opened
