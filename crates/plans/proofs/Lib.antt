pub mod Dividing
pub mod Strahler
pub mod Measuring
