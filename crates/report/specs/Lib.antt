pub mod Lines
pub mod Printing
pub mod Samples
pub mod Opened
