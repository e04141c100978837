pub mod Frame
pub mod Opened
pub mod Worked
pub mod Mode
