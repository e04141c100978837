pub mod OrderLaws
pub mod OpenLaws
