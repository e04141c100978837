pub mod TestLaws
pub mod SearchLaws
pub mod CeilLaws
pub mod ListLaws
pub mod TurnLaws
pub mod BackLaws
pub mod SpacedLaws
pub mod RefusalLaws
