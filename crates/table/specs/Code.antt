pub mod Before
pub mod Good
pub mod Listed
pub mod Taken
