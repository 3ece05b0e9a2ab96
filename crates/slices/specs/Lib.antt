pub mod Slices
pub mod Stored
pub mod Locate
pub mod Code
