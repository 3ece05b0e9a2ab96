pub mod Writing
pub mod Converting
pub mod Salvaging
