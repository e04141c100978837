pub mod FrameLaws
pub mod ModeLaws
