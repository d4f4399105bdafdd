pub mod Dividing
pub mod Marking
