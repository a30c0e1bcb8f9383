pub mod Parts
pub mod Find
pub mod Lines
pub mod Words
pub mod Tokens
