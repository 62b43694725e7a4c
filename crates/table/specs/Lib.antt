-- The table of a program's statements.
pub mod Rows
pub mod Filling
