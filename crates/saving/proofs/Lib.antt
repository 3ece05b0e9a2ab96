pub mod Written
pub mod Verdicts
pub mod Seen
pub mod Faults
pub mod After
pub mod Changes
pub mod Promises
