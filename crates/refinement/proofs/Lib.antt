pub mod RowCells
pub mod Rounds
pub mod Quotients
pub mod DeadRows
