pub mod Placing
pub mod Adding
pub mod Moving
pub mod Naming
