pub mod Walk
pub mod Step
pub mod Heard
pub mod Paid
pub mod Releases
