pub mod ScanLaws
pub mod WayLaws
pub mod OutcomeLaws
pub mod NumberLaws
pub mod PlainLaws
pub mod EnoughLaws
pub mod PartLaws
pub mod BlockLaws
