pub mod Counting
pub mod Finishing
pub mod Joins
pub mod Limits
pub mod Orders
