pub mod Forms
pub mod Convert
pub mod Code
