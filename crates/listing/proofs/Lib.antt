pub mod Ends
pub mod Fronts
pub mod Pairing
pub mod LastBit
pub mod Joining
pub mod Starting
