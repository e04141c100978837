pub mod Field
pub mod Text
pub mod Sheet
pub mod Scan
pub mod SheetWriter
pub mod SheetJudging
pub mod Opened
pub mod Samples
