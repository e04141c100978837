pub mod Number
pub mod NumberRules
