pub mod InOrder
pub mod Owners
pub mod Limits
pub mod Numbers
pub mod Onward
