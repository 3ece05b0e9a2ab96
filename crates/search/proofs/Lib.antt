pub mod Choice
pub mod Find
pub mod Lists
pub mod Rest
pub mod Keeping
pub mod Pairing
pub mod Matching
