pub mod Operators
pub mod Meaning
pub mod Plain
pub mod Tracing
pub mod Nearest
