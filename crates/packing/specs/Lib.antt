pub mod Packing
pub mod Most
pub mod Code
