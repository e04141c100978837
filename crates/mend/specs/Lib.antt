pub mod Grid
pub mod Rows
pub mod Mend
pub mod Plain
pub mod Opened
pub mod Worked
