pub mod Alike
pub mod Reading
pub mod Sampling
pub mod Taking
pub mod Tracing
pub mod Turns
