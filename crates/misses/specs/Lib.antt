pub mod Overloads
pub mod Sets
pub mod Bad
pub mod Misses
pub mod Sieve
pub mod Code
