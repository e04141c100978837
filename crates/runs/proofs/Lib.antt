pub mod MaskLaws
pub mod StepsLaws
pub mod NumberLaws
pub mod StopLaws
pub mod PlayLaws
pub mod OneLaws
pub mod RunLaws
pub mod UniqueLaws
