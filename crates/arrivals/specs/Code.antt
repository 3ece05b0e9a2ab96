pub mod Bounds
pub mod Sums
pub mod WithinList
