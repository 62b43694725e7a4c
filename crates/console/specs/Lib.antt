pub mod Choices
pub mod Decimal
pub mod Hexadecimal
pub mod Lines
pub mod Outcomes
pub mod Sessions
pub mod Splitting
pub mod Texts
