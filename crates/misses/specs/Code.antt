pub mod Held
pub mod Settling
pub mod Packings
