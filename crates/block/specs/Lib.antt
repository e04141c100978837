pub mod Play
pub mod Block
pub mod Numbered
pub mod Opened
pub mod Worked
