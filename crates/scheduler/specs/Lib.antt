pub mod Taken
pub mod Numbered
pub mod Calls
pub mod Opened
