-- The definitions that the contracts of the reader cite.
pub mod Counting
pub mod Extents
pub mod Pieces
pub mod Readers
pub mod Seen
pub mod Steps
pub mod Summaries
pub mod Told
