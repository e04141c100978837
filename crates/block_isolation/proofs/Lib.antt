pub mod ByteLaws
pub mod ShownLaws
pub mod Isolation
pub mod OnExample
