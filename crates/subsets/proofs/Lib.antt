pub mod Moves
pub mod SetBits
