-- Breadth-first exploration: the keys that a deterministic system reaches become the rows of a table.
pub mod Keys
pub mod Hashed
pub mod Standing
pub mod Exploring
pub mod Pairs
