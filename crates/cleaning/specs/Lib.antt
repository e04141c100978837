pub mod Cleanings
pub mod Scan
pub mod Plain
pub mod Opened
pub mod Worked
