pub mod Among
pub mod Parts
pub mod Places
pub mod Walks
pub mod Blocks
