pub mod Format
pub mod Buffer
pub mod Writer
pub mod Opened
pub mod Numbered
