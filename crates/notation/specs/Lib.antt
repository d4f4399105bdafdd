-- The readable form of pattern lists: the definitions that the contracts cite.
pub mod Places
pub mod Reading
pub mod Writing
pub mod Names
pub mod Promises
