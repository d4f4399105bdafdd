-- What the contracts of tables and words cite; nothing here knows of patterns.
pub mod Words
pub mod Classes
pub mod Machines
pub mod Tables
pub mod Pieces
pub mod Columns
pub mod Minimal
pub mod Systems
pub mod Laws
pub mod Dead
pub mod Inside
pub mod Expanding
