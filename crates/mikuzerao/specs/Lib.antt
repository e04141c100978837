pub mod Statuses
pub mod Refused
