pub mod NumberLaws
pub mod Runs
pub mod RuleLaws
