pub mod Fields
pub mod Numbers
pub mod RowLine
pub mod FrameLines
pub mod Opened
pub mod RowSamples
pub mod WindowSamples
pub mod NumberSamples
