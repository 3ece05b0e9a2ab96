pub mod Arrivals
pub mod Code
