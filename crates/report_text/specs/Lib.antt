pub mod Numbers
pub mod Report
pub mod Code
