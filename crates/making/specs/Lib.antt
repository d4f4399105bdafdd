-- A list of patterns becomes the one table, or is refused exactly.
pub mod Planning
pub mod Orders
pub mod Working
