-- The lemmas that the proofs of the reader share.
pub mod Commands
pub mod Exits
pub mod Extending
pub mod Lefts
pub mod Mains
pub mod Mapped
pub mod Sizes
pub mod Turns
pub mod Ways
