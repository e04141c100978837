pub mod GuardLaws
pub mod SightLaws
pub mod NumberLaws
pub mod UniqueLaws
