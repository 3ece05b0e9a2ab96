pub mod Choice
pub mod Find
pub mod Lists
