pub mod Load
pub mod Climb
pub mod Called
