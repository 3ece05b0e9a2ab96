pub mod Versions
pub mod Rule
pub mod Merge
pub mod Code
