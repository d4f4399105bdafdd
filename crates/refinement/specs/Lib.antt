-- Partition refinement: rows that do alike become one, and the dead row is found.
pub mod Refining
pub mod Joining
pub mod DeadRows
