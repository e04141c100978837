pub mod Flow
pub mod Gap
