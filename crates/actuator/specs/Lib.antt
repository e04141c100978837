pub mod Motion
pub mod Drive
pub mod Numbered
pub mod Runs
pub mod Opened
pub mod Worked
