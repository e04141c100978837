pub mod RefusalLaws
pub mod HeardLaws
pub mod UniqueLaws
pub mod CallLaws
