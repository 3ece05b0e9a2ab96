pub mod Rows
pub mod Write
pub mod Fill
pub mod Code
