pub mod Seeks
pub mod Parts
pub mod Ids
pub mod Weight
pub mod Size
pub mod Judged
