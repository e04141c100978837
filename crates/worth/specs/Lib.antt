pub mod Worth
pub mod Premises
pub mod Account
pub mod Measured
