-- The table of a list of patterns, one pattern more at a time.
pub mod LastBit
pub mod Listed
