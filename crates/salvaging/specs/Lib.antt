pub mod Kept
pub mod Skipped
pub mod Salvage
pub mod Steps
pub mod Cover
pub mod Code
