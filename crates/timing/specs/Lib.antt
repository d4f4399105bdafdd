-- The system that is timed.
pub mod Windows
