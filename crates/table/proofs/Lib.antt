pub mod RangeLaws
pub mod TakenLaws
pub mod LegalLaws
pub mod MarkLaws
pub mod GuardLaws
