pub mod Save
pub mod Later
pub mod Code
