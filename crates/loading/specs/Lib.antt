pub mod Begins
pub mod Writing
