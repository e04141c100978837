pub mod Phrase
pub mod Opened
pub mod Samples
