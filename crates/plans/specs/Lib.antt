-- What is known of a list before it is worked out.
pub mod Dividing
pub mod Strahler
