pub mod Digits
pub mod Fit
pub mod Turns
pub mod Ahead
