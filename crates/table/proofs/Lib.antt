pub mod Parts
pub mod Counts
pub mod Filling
