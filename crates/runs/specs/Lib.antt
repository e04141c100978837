pub mod Playing
pub mod Numbered
pub mod Stopping
pub mod Worked
