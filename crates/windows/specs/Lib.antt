pub mod Demand
pub mod Window
pub mod Latency
pub mod Sieve
pub mod Code
