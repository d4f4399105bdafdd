-- What the exported calls ensure.
pub mod Codes
