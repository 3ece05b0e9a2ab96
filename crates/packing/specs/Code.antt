pub mod Plain
pub mod Engine
