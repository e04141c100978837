pub mod Tests
pub mod Search
pub mod Told
pub mod Ceil
pub mod Turns
pub mod Spaced
pub mod Refusals
