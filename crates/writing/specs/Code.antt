pub mod Tally
pub mod Put
pub mod Rows
