pub mod FieldLaws
pub mod NumberLaws
pub mod LineLaws
pub mod ReadingLaws
pub mod WindowLaws
