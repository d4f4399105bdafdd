-- Patterns with and, or and not: the definitions that the contracts cite, in the order in which they build on each other.
pub mod Patterns
pub mod Meanings
pub mod Residuals
pub mod Sizes
pub mod Lists
pub mod Nodes
pub mod Searching
pub mod Feeding
pub mod Promises
pub mod Cases
