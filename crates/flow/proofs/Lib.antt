pub mod FlowLaws
pub mod GapLaws
