pub mod Text
pub mod Playing
pub mod Example
