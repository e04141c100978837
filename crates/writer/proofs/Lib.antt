pub mod WriterLaws
pub mod LongestLaws
pub mod NumberLaws
