pub mod Threads
pub mod Ranges
pub mod Legal
pub mod Mark
pub mod Opened
