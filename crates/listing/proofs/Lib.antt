pub mod Bytes
pub mod Rows
pub mod Arguments
pub mod Lines
pub mod Loads
pub mod Refusal10
pub mod Spellings
