pub mod Tasks
pub mod Segments
pub mod Actives
pub mod View
pub mod Query
pub mod Code
