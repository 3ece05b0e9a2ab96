pub mod Begins
pub mod Wrote
